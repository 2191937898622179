-- What a joint in space does not name changes no row (`same-named`): two joints that agree but for unnamed motors, limits and stored impulses have the same rows
-- from the builder's `update`. A row reads of its joint what its id names: a lock nothing of motors and limits (`lock-reads`), a limit its own axis's ends
-- (`limit-reads`), a motor its own axis's motor, and the ends of that axis's limit where T holds the axis (`motor-reads`), and then the joint names that limit
-- too (`limit-beside-motor` of the crate rows). No row of group two reads a motor (`no-motor`). Assumes nothing.
use Rattle.std.specs.Prelude.{Option}
use Prim.Native.Nat.{ℕ}
use mathlib.Core.Path.{◌≡◌, refl, sym, ap, ◌∙◌}
use mathlib.Core.Bool.{Bool, true, false, not, ◌&&◌}
use mathlib.Core.List.Memᴰ
use mathlib.Core.List.{List, [], ◌∷◌, map, map-append, Memᴰ}
use lib.Ieee.{Float}
use Rattle.rows.specs.RowIds.{is_locked, is_limit, is_coupled, keep, in_order, first_coupled, group_one, group_two, lock_ids, limit_ids, row_ids}
use Rattle.rows.specs.declared.generic_joint.Masks.{Masks}
use Rattle.rows.specs.declared.integration_parameters.IntegrationParameters.{IntegrationParameters}
use Rattle.rows.specs.declared.joint_velocity_constraint.WritebackId.{WritebackId}
use Rattle.rows.specs.declared.joint_velocity_constraint.WritebackId.TheVariants.{Dof, Limit, Motor}
use Rattle.rows.proofs.NamedRows.{limit-beside-motor}
use Rattle.rows.proofs.WarmedFinalize.{warmed_all-seeds}
use Rattle.spatial_rows.specs.SpatialMasks.{spatial_masks}
use Rattle.spatial_rows.specs.GenericJoint.{limits_at, motor_at}
use Rattle.spatial_rows.specs.Row.{with_impulse}
use Rattle.spatial_rows.specs.Update.{context_of, motor_limits_of, row_of, update_of}
use Rattle.spatial_rows.specs.Builder.{joint_context_of, seed_of, builder_update_of}
use Rattle.spatial_rows.specs.Named.{GivesRow, SameNamed}
use Rattle.spatial_rows.specs.declared.joint_constraint_builder.SolverPose.{SolverPose}
use Rattle.spatial_rows.specs.declared.joint_constraint_builder.ImpulseJoint.{ImpulseJoint}
use Rattle.spatial_rows.specs.declared.joint_velocity_constraint.RowContext.{RowContext}
use Rattle.spatial_rows.proofs.WritebackNamed.{named-seeds}

-- ---- what each row reads

-- two contexts that agree on what every row reads
pub record SameShared (x y : RowContext) : Type 0 where
  pub params : x.params ≡ y.params
  pub body1 : x.body1 ≡ y.body1
  pub body2 : x.body2 ≡ y.body2
  pub helper : x.helper ≡ y.helper
  pub erp : x.erp_inv_dt ≡ y.erp_inv_dt
  pub cfm : x.cfm_coeff ≡ y.cfm_coeff
  pub masks : x.joint.masks ≡ y.joint.masks

module _ (x y : RowContext) (s : SameShared x y) where
  lock-reads : (i : ℕ) → row_of x (Dof i) ≡ row_of y (Dof i)
  unfolding row_of
  lock-reads i = rw (s.helper, s.body1, s.body2, s.erp, s.cfm)

  limit-reads : (i : ℕ) → limits_at x.joint i ≡ limits_at y.joint i → row_of x (Limit i) ≡ row_of y (Limit i)
  unfolding row_of
  limit-reads i e = rw (s.helper, s.params, s.body1, s.body2, s.erp, s.cfm, e)

  ends : (i : ℕ) → (is_limit (spatial_masks x.joint.masks) i ≡ true → limits_at x.joint i ≡ limits_at y.joint i) → motor_limits_of x.joint i ≡ motor_limits_of y.joint i
  unfolding motor_limits_of
  ends i e = go (is_limit (spatial_masks x.joint.masks) i) refl
    where
      go : (b : Bool) → is_limit (spatial_masks x.joint.masks) i ≡ b → motor_limits_of x.joint i ≡ motor_limits_of y.joint i
      go true t = rw (e t, s.masks)
      go false t = rw (t, ap (λ (k : Masks). is_limit (spatial_masks k) i) (sym s.masks) ∙ t)

  motor-reads : (i : ℕ) → motor_at x.joint i ≡ motor_at y.joint i → (is_limit (spatial_masks x.joint.masks) i ≡ true → limits_at x.joint i ≡ limits_at y.joint i)
      → row_of x (Motor i) ≡ row_of y (Motor i)
  unfolding row_of
  motor-reads i e f = rw (s.helper, s.params, s.body1, s.body2, ends i f, e)

-- Group two reads no motor: contexts that agree but for motors make the same rows of it.
module _ (x y : RowContext) (s : SameShared x y) (e : (i : ℕ) → limits_at x.joint i ≡ limits_at y.joint i) where
  locks : (l : List ℕ) → map (row_of x) (map Dof l) ≡ map (row_of y) (map Dof l)
  locks [] = refl
  locks (i ∷ l) = rw (lock-reads x y s i, locks l)

  limits : (l : List ℕ) → map (row_of x) (map Limit l) ≡ map (row_of y) (map Limit l)
  limits [] = refl
  limits (i ∷ l) = rw (limit-reads x y s i (e i), limits l)

  pub no-motor : (nl na : ℕ) (k : Masks) → map (row_of x) (group_two nl na k) ≡ map (row_of y) (group_two nl na k)
  no-motor nl na k =
      let d : List ℕ = keep (is_locked k) (in_order nl na) in
      let u : List ℕ = keep (λ i. is_limit k i && not (is_coupled k i)) (in_order nl na) in
      let c : List ℕ = keep (is_limit k) (first_coupled nl k) in
      rw (
        map-append (row_of x) (lock_ids nl na k) (limit_ids nl na k),
        map-append (row_of y) (lock_ids nl na k) (limit_ids nl na k),
        map-append (row_of x) (map Limit u) (map Limit c),
        map-append (row_of y) (map Limit u) (map Limit c),
        locks d,
        limits u,
        limits c,
      )

-- ---- the rows of two joints that agree on what they name

module _ (params : IntegrationParameters) (body1 body2 : SolverPose) (a b : ImpulseJoint) (s : SameNamed (GivesRow a.«data».masks) a b) where
  abbrev k : Masks
  k = spatial_masks a.«data».masks

  x : RowContext
  x = joint_context_of params body1 body2 a

  y : RowContext
  y = joint_context_of params body1 body2 b

  same-shared : SameShared x y
  unfolding x y joint_context_of context_of
  same-shared = record {
    params = refl;
    body1 = refl;
    body2 = refl;
    helper = rw (s.frame1, s.frame2, s.masks);
    erp = rw s.softness;
    cfm = rw s.softness;
    masks = s.masks;
  }

  named-row : (id : WritebackId) → GivesRow a.«data».masks id → row_of x id ≡ row_of y id
  unfolding x y joint_context_of context_of
  named-row (Dof i) m = lock-reads x y same-shared i
  named-row (Limit i) m = limit-reads x y same-shared i (s.limits i m)
  named-row (Motor i) m = motor-reads x y same-shared i (s.motor i m) (λ t. s.limits i (limit-beside-motor 3 3 k i m t))

  named-rows : (is : List WritebackId) → ((id : WritebackId) → Memᴰ id is → GivesRow a.«data».masks id) → map (row_of x) is ≡ map (row_of y) is
  named-rows [] h = refl
  named-rows (i ∷ is) h = rw (named-row i (h i (Memᴰ.head refl)), named-rows is (λ j m. h j (Memᴰ.tail m)))

  same_update : update_of x ≡ update_of y
  unfolding x y joint_context_of context_of update_of row_ids
  same_update =
      rw (
        named-rows (group_one 3 3 k) (λ j m. Memᴰ.append_left (group_two 3 3 k) m),
        named-rows (group_two 3 3 k) (λ j m. Memᴰ.append_right (group_one 3 3 k) m),
        s.masks,
      )

  pub same-named : (substep : ℕ) (warm : Option Float) (prevs : List Float)
      → builder_update_of params substep warm body1 body2 a prevs ≡ builder_update_of params substep warm body1 body2 b prevs
  unfolding builder_update_of x y
  same-named substep warm prevs =
      warmed_all-seeds with_impulse warm substep (seed_of a) (seed_of b) (row_ids 3 3 k) prevs (update_of x) (named-seeds a b s) ∙ rw (same_update, s.masks)
