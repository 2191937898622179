-- What a joint does not name changes no row (`same-named`): two joints that agree but for unnamed motors, limits, centre and stored impulses
-- have the same rows from the builder's `update`. A row reads of its joint what its id names: a lock nothing of motors and limits (`lock-reads`),
-- a limit its own axis's ends, and the centre for the angular one (`limit-reads`), a motor its own axis's motor, and the ends of that axis's limit
-- where T holds the axis (`motor-reads`), and then the joint names that limit too (`limit-beside-motor`). Over any number of axes where axes
-- are counted. No row of group two reads a motor (`no-motor`). Assumes nothing.
use Rattle.std.specs.Prelude.{Option}
use Prim.Native.Nat.{ℕ}
use mathlib.Core.Path.{◌≡◌, refl, sym, ap, ◌∙◌}
use mathlib.Core.Logic.{◌⊎◌, inl, inr}
use mathlib.Core.Bool.{Bool, true, false, not, cond, ◌&&◌}
use mathlib.Core.List.Memᴰ
use mathlib.Core.List.{List, [], ◌∷◌, map, map-append, Memᴰ}
use native.Mathlib.Omega.{arith}
use borrow.Author.Tests.{eqb-true}
use lib.Dec.{eqb}
use lib.Ieee.{Float}
use Rattle.rows.specs.declared.integration_parameters.IntegrationParameters.{IntegrationParameters}
use Rattle.rows.specs.declared.generic_joint.Masks.{Masks}
use Rattle.rows.specs.declared.joint_constraint_builder.SolverPose.{SolverPose}
use Rattle.rows.specs.declared.joint_constraint_builder.ImpulseJoint.{ImpulseJoint}
use Rattle.rows.specs.declared.joint_velocity_constraint.RowContext.{RowContext}
use Rattle.rows.specs.declared.joint_velocity_constraint.WritebackId.{WritebackId}
use Rattle.rows.specs.declared.joint_velocity_constraint.WritebackId.TheVariants.{Dof, Limit, Motor}
use Rattle.rows.specs.GenericJoint.{limits_at, motor_at}
use Rattle.rows.specs.Row.{with_impulse}
use Rattle.rows.specs.RowIds.{is_locked, is_motor, is_limit, is_coupled, keep, in_order, first_coupled, shares_linear, group_one, group_two, lock_ids, limit_ids, row_ids}
use Rattle.rows.specs.Update.{context_of, motor_limits_of, row_of, update_of}
use Rattle.rows.specs.Builder.{joint_context_of, seed_of, builder_update_of}
use Rattle.rows.specs.Named.{GivesRow, SameNamed}
use Rattle.rows.proofs.WarmedFinalize.{warmed_all-seeds}
use Rattle.rows.proofs.WritebackNamed.{named-seeds}

-- ---- what each row reads

-- two contexts that agree on what every row reads
pub record SameShared (x y : RowContext) : Type 0 where
  pub params : x.params ≡ y.params
  pub body1 : x.body1 ≡ y.body1
  pub body2 : x.body2 ≡ y.body2
  pub helper : x.helper ≡ y.helper
  pub erp : x.erp_inv_dt ≡ y.erp_inv_dt
  pub cfm : x.cfm_coeff ≡ y.cfm_coeff
  pub masks : x.joint.masks ≡ y.joint.masks

module _ (x y : RowContext) (s : SameShared x y) where
  lock-reads : (i : ℕ) → row_of x (Dof i) ≡ row_of y (Dof i)
  unfolding row_of
  lock-reads i = rw (s.helper, s.body1, s.body2, s.erp, s.cfm)

  limit-reads : (i : ℕ) → limits_at x.joint i ≡ limits_at y.joint i → (i ≡ 2 → x.ang_limit ≡ y.ang_limit) → row_of x (Limit i) ≡ row_of y (Limit i)
  unfolding row_of
  limit-reads i e f = go (eqb i 2) refl
    where
      go : (b : Bool) → eqb i 2 ≡ b → row_of x (Limit i) ≡ row_of y (Limit i)
      go true t = rw (t, s.helper, s.params, s.body1, s.body2, s.erp, s.cfm, f (eqb-true i 2 t))
      go false t = rw (t, s.helper, s.params, s.body1, s.body2, s.erp, s.cfm, e, s.masks)

  ends : (i : ℕ) → (is_limit x.joint.masks i ≡ true → limits_at x.joint i ≡ limits_at y.joint i) → motor_limits_of x.joint i ≡ motor_limits_of y.joint i
  unfolding motor_limits_of
  ends i e = go (is_limit x.joint.masks i) refl
    where
      go : (b : Bool) → is_limit x.joint.masks i ≡ b → motor_limits_of x.joint i ≡ motor_limits_of y.joint i
      go true t = rw (e t, s.masks)
      go false t = rw (t, ap (λ (k : Masks). is_limit k i) (sym s.masks) ∙ t)

  motor-reads : (i : ℕ) → motor_at x.joint i ≡ motor_at y.joint i → (is_limit x.joint.masks i ≡ true → limits_at x.joint i ≡ limits_at y.joint i)
      → row_of x (Motor i) ≡ row_of y (Motor i)
  unfolding row_of
  motor-reads i e f = rw (s.helper, s.params, s.body1, s.body2, ends i f, e, s.masks)

-- Group two reads no motor: contexts that agree but for motors make the same rows of it.
module _ (x y : RowContext) (s : SameShared x y) (e : (i : ℕ) → limits_at x.joint i ≡ limits_at y.joint i) (f : x.ang_limit ≡ y.ang_limit) where
  locks : (l : List ℕ) → map (row_of x) (map Dof l) ≡ map (row_of y) (map Dof l)
  locks [] = refl
  locks (i ∷ l) = rw (lock-reads x y s i, locks l)

  limits : (l : List ℕ) → map (row_of x) (map Limit l) ≡ map (row_of y) (map Limit l)
  limits [] = refl
  limits (i ∷ l) = rw (limit-reads x y s i (e i) (λ t. f), limits l)

  pub no-motor : (nl na : ℕ) (k : Masks) → map (row_of x) (group_two nl na k) ≡ map (row_of y) (group_two nl na k)
  no-motor nl na k =
      let d : List ℕ = keep (is_locked k) (in_order nl na) in
      let u : List ℕ = keep (λ i. is_limit k i && not (is_coupled k i)) (in_order nl na) in
      let c : List ℕ = keep (is_limit k) (first_coupled nl k) in
      rw (
        map-append (row_of x) (lock_ids nl na k) (limit_ids nl na k),
        map-append (row_of y) (lock_ids nl na k) (limit_ids nl na k),
        map-append (row_of x) (map Limit u) (map Limit c),
        map-append (row_of y) (map Limit u) (map Limit c),
        locks d,
        limits u,
        limits c,
      )

-- ---- a motor's limit is named where it is read

cond-mem : (b : Bool) (i j : ℕ) (l : List ℕ) → Memᴰ i (cond b (j ∷ l) l) → ((i ≡ j) × (b ≡ true)) ⊎ Memᴰ i l
cond-mem true i j l m = elim (Memᴰ.cases_cons m) [ inl e ↦ inl (e, refl) | inr r ↦ inr r ]
cond-mem false i j l m = inr m

mem-cond : (b : Bool) (i j : ℕ) (l : List ℕ) → Memᴰ i l → Memᴰ i (cond b (j ∷ l) l)
mem-cond true i j l m = Memᴰ.tail m
mem-cond false i j l m = m

kept : (p : ℕ → Bool) (i : ℕ) (l : List ℕ) → Memᴰ i (keep p l) → Memᴰ i l × (p i ≡ true)
kept p i [] m = absurd (Memᴰ.not-nil m)
kept p i (j ∷ l) m = elim (cond-mem (p j) i j (keep p l) m) [
  | inl h ↦ (Memᴰ.head h.0, ap p h.0 ∙ h.1)
  | inr r ↦ (Memᴰ.tail (kept p i l r).0, (kept p i l r).1)
]

keeps : (p : ℕ → Bool) (i : ℕ) (l : List ℕ) → Memᴰ i l → p i ≡ true → Memᴰ i (keep p l)
keeps p i [] m t = absurd (Memᴰ.not-nil m)
keeps p i (j ∷ l) m t = elim (Memᴰ.cases_cons m) [
  | inl e ↦ rw (ap p (sym e) ∙ t) (Memᴰ.head e)
  | inr r ↦ mem-cond (p j) i j (keep p l) (keeps p i l r t)
]

and_right : (a b : Bool) → (a && b) ≡ true → b ≡ true
and_right true b h = h
and_right false b h = cc

both : (a b : Bool) → a ≡ true → b ≡ true → (a && b) ≡ true
both a b h g = rw (h, g)

-- a motor's axis, from its place in a list of ids
motor-axis : (i : ℕ) (l : List ℕ) → Memᴰ (Motor i) (map Motor l) → Memᴰ i l
motor-axis i l m = let h = Memᴰ.of_map Motor l m in Memᴰ.cast (sym (axis h.0 i h.2)) h.1
  where
    axis : (a b : ℕ) → Motor a ≡ Motor b → a ≡ b
    axis a b e = cc

no-lock : (i : ℕ) (l : List ℕ) → Memᴰ (Motor i) (map Dof l) → ⊥
no-lock i l m = let h = Memᴰ.of_map Dof l m in never h.0 i h.2
  where
    never : (a b : ℕ) → Dof a ≡ Motor b → ⊥
    never a b e = let z : ◌≡◌ {A = ℕ} 0 1 = cc in omega arith

no-limit : (i : ℕ) (l : List ℕ) → Memᴰ (Motor i) (map Limit l) → ⊥
no-limit i l m = let h = Memᴰ.of_map Limit l m in never h.0 i h.2
  where
    never : (a b : ℕ) → Limit a ≡ Motor b → ⊥
    never a b e = let z : ◌≡◌ {A = ℕ} 0 1 = cc in omega arith

module _ (nl na : ℕ) (k : Masks) (i : ℕ) where
  limit-id : Memᴰ (Limit i) (limit_ids nl na k) → Memᴰ (Limit i) (row_ids nl na k)
  unfolding row_ids
  limit-id m = Memᴰ.append_right (group_one nl na k) (Memᴰ.append_right (lock_ids nl na k) m)

  -- an uncoupled motor, and the coupled one
  beside-uncoupled : Memᴰ i (keep (λ j. is_motor k j && not (is_coupled k j)) (in_order nl na)) → is_limit k i ≡ true → Memᴰ (Limit i) (limit_ids nl na k)
  beside-uncoupled m t =
      let h = kept (λ j. is_motor k j && not (is_coupled k j)) i (in_order nl na) m in
      Memᴰ.append_left (map Limit (keep (is_limit k) (first_coupled nl k)))
      (Memᴰ.map Limit
      (keeps (λ j. is_limit k j && not (is_coupled k j)) i (in_order nl na) h.0 (both (is_limit k i) (not (is_coupled k i)) t (and_right (is_motor k i) (not (is_coupled k i)) h.1))))

  beside-coupled : Memᴰ i (first_coupled nl k) → is_limit k i ≡ true → Memᴰ (Limit i) (limit_ids nl na k)
  beside-coupled m t =
      Memᴰ.append_right (map Limit (keep (λ j. is_limit k j && not (is_coupled k j)) (in_order nl na))) (Memᴰ.map Limit (keeps (is_limit k) i (first_coupled nl k) m t))

  shared : (b : Bool) → Memᴰ (Motor i) (cond b (map Motor (first_coupled nl k)) []) → Memᴰ i (first_coupled nl k)
  shared true m = motor-axis i (first_coupled nl k) m
  shared false m = absurd (Memᴰ.not-nil m)

  pub limit-beside-motor : Memᴰ (Motor i) (row_ids nl na k) → is_limit k i ≡ true → Memᴰ (Limit i) (row_ids nl na k)
  unfolding row_ids
  limit-beside-motor m t = elim (Memᴰ.append_cases (group_one nl na k) m) [
    | inl g ↦ elim (Memᴰ.append_cases (map Motor (keep (λ j. is_motor k j && not (is_coupled k j)) (in_order nl na))) g) [
      | inl u ↦ limit-id (beside-uncoupled (motor-axis i (keep (λ j. is_motor k j && not (is_coupled k j)) (in_order nl na)) u) t)
      | inr c ↦ limit-id (beside-coupled (shared (shares_linear nl k) c) t)
    ]
    | inr g ↦ elim (Memᴰ.append_cases (lock_ids nl na k) g) [
      | inl d ↦ absurd (no-lock i (keep (is_locked k) (in_order nl na)) d)
      | inr l ↦ elim (Memᴰ.append_cases (map Limit (keep (λ j. is_limit k j && not (is_coupled k j)) (in_order nl na))) l) [
        | inl u ↦ absurd (no-limit i (keep (λ j. is_limit k j && not (is_coupled k j)) (in_order nl na)) u)
        | inr c ↦ absurd (no-limit i (keep (is_limit k) (first_coupled nl k)) c)
      ]
    ]
  ]

-- ---- the rows of two joints that agree on what they name

module _ (params : IntegrationParameters) (body1 body2 : SolverPose) (a b : ImpulseJoint) (s : SameNamed (GivesRow a.«data».masks) a b) where
  x : RowContext
  x = joint_context_of params body1 body2 a

  y : RowContext
  y = joint_context_of params body1 body2 b

  same-shared : SameShared x y
  unfolding x y joint_context_of context_of
  same-shared = record {
    params = refl;
    body1 = refl;
    body2 = refl;
    helper = rw (s.frame1, s.frame2, s.masks);
    erp = rw s.softness;
    cfm = rw s.softness;
    masks = s.masks;
  }

  named-row : (id : WritebackId) → GivesRow a.«data».masks id → row_of x id ≡ row_of y id
  unfolding x y joint_context_of context_of
  named-row (Dof i) m = lock-reads x y same-shared i
  named-row (Limit i) m = limit-reads x y same-shared i (s.limits i m) (λ e. at-center (Memᴰ.cast (ap Limit (sym e)) m))
    where
      at-center : GivesRow a.«data».masks (Limit 2) → x.ang_limit ≡ y.ang_limit
      at-center n = rw (s.limits 2 n, s.center n)
  named-row (Motor i) m = motor-reads x y same-shared i (s.motor i m) (λ t. s.limits i (limit-beside-motor 2 1 a.«data».masks i m t))

  named-rows : (is : List WritebackId) → ((id : WritebackId) → Memᴰ id is → GivesRow a.«data».masks id) → map (row_of x) is ≡ map (row_of y) is
  named-rows [] h = refl
  named-rows (i ∷ is) h = rw (named-row i (h i (Memᴰ.head refl)), named-rows is (λ j m. h j (Memᴰ.tail m)))

  same_update : update_of x ≡ update_of y
  unfolding x y joint_context_of context_of update_of row_ids
  same_update =
      rw (
        named-rows (group_one 2 1 a.«data».masks) (λ j m. Memᴰ.append_left (group_two 2 1 a.«data».masks) m),
        named-rows (group_two 2 1 a.«data».masks) (λ j m. Memᴰ.append_right (group_one 2 1 a.«data».masks) m),
        s.masks,
      )

  pub same-named : (substep : ℕ) (warm : Option Float) (prevs : List Float)
      → builder_update_of params substep warm body1 body2 a prevs ≡ builder_update_of params substep warm body1 body2 b prevs
  unfolding builder_update_of x y
  same-named substep warm prevs =
      warmed_all-seeds with_impulse warm substep (seed_of a) (seed_of b) (row_ids 2 1 a.«data».masks) prevs (update_of x) (named-seeds a b s) ∙ rw (same_update, s.masks)
