-- A joint's rows and ids in arrays of six. The array of at most six rows gives their number (`rows_array-len`), the rows themselves, first
-- (`rows_array-rows`), and blank rows after them (`rows_array-blank`); the array of a joint's ids gives their number (`row_ids_array-len`), each id at
-- its place (`row_ids_array-id`) and all of them (`row_ids_array-ids`). From six last impulses the builder's `update` makes as many rows as the joint's masks name
-- (`length-builder_update_of`), and with no warm coefficient or in substep 0 it makes the same rows whatever these impulses are (`reads-no-row`).
-- Assumes nothing.
use Rattle.std.specs.Prelude.{Option, None}
use Prim.Native.Nat.{ℕ, zero, suc, ◌-◌, ◌≤◌, ◌<◌}
use native.Mathlib.Nat.{le_of_suc-le-suc, not-suc-le-zero}
use mathlib.Core.Path.{◌≡◌, refl, sym, ap, ◌∙◌}
use mathlib.Core.Logic.{◌⊎◌, inl, inr}
use mathlib.Core.List.{List, [], ◌∷◌, map}
use lib.ListN.{length, get_or, take, drop, replicate}
use lib.Ieee.{Float}
use Rattle.rows.specs.declared.integration_parameters.IntegrationParameters.{IntegrationParameters}
use Rattle.rows.specs.declared.generic_joint.Masks.{Masks}
use Rattle.rows.specs.declared.joint_constraint_builder.SolverPose.{SolverPose}
use Rattle.rows.specs.declared.joint_constraint_builder.ImpulseJoint.{ImpulseJoint}
use Rattle.rows.specs.declared.joint_velocity_constraint.JointConstraint.{JointConstraint}
use Rattle.rows.specs.declared.joint_velocity_constraint.RowContext.{RowContext}
use Rattle.rows.specs.declared.joint_velocity_constraint.WritebackId.{WritebackId}
use Rattle.rows.specs.declared.joint_velocity_constraint.WritebackId.TheVariants.{Dof}
use Rattle.rows.specs.declared.row_ids.RowId.{RowId}
use Rattle.rows.specs.RowIds.{filled, row_id, ids_filled, row_ids, row_ids_array}
use Rattle.rows.specs.Update.{update_of, blank_row, rows_array}
use Rattle.rows.specs.Row.{with_impulse}
use Rattle.rows.specs.Builder.{joint_context_of, seed_of, builder_update_of}
use Rattle.rows.proofs.Filled.{take-filled, drop-filled}
use Rattle.rows.proofs.RowIdsCount.{at-most-six}
use Rattle.rows.proofs.UpdateRows.{length-update_of}
use Rattle.rows.proofs.WarmedFinalize.{length-warmed_all}
use Rattle.rows.proofs.WarmedRows.{context-joint}
use Rattle.rows.proofs.BuilderLaws.{first-reads-no-row, cold}

-- ---- the array of rows

module _ (l : List JointConstraint) where
  -- the array as it is filled
  pub rows_array-filled : rows_array l ≡ record { rows = filled 6 blank_row l; len = length l }
  unfolding rows_array
  rows_array-filled = refl

  pub rows_array-len : (rows_array l).len ≡ length l
  unfolding rows_array
  rows_array-len = refl

  pub rows_array-rows : length l ≤ 6 → take (rows_array l).len (rows_array l).rows ≡ l
  unfolding rows_array
  rows_array-rows h = take-filled blank_row 6 (length l) l refl h

  pub rows_array-blank : length l ≤ 6 → drop (rows_array l).len (rows_array l).rows ≡ replicate (6 - length l) blank_row
  unfolding rows_array
  rows_array-blank h = drop-filled blank_row 6 (length l) l refl h

-- ---- the array of ids

-- ids wrapped one by one
length_ids : (is : List WritebackId) → length (map row_id is) ≡ length is
length_ids [] = refl
length_ids (i ∷ is) = ap suc (length_ids is)

ids-back : (is : List WritebackId) → map (λ (i : RowId). i.id) (map row_id is) ≡ is
ids-back [] = refl
ids-back (i ∷ is) = ap (λ l. i ∷ l) (ids-back is)

id-at : (m : ℕ) (x d : RowId) (e : WritebackId) (is : List WritebackId) (i : ℕ) → length is ≤ m → i < length is → (get_or (filled m x (map row_id is)) i d).id ≡ get_or is i e
id-at m x d e [] i h g = absurd (not-suc-le-zero g)
id-at zero x d e (a ∷ is) i h g = absurd (not-suc-le-zero h)
id-at (suc m) x d e (a ∷ is) zero h g = refl
id-at (suc m) x d e (a ∷ is) (suc i) h g = id-at m x d e is i (le_of_suc-le-suc h) (le_of_suc-le-suc g)

-- ids in an array of any length; d and e stand for what would be read past the ends
module _ (most : ℕ) (is : List WritebackId) (few : length is ≤ most) where
  pub ids_filled-id : (i : ℕ) (d : RowId) (e : WritebackId) → i < length is → (get_or (ids_filled most is) i d).id ≡ get_or is i e
  ids_filled-id i d e h = id-at most (row_id (Dof 0)) d e is i few h

  pub ids_filled-ids : map (λ (i : RowId). i.id) (take (length is) (ids_filled most is)) ≡ is
  ids_filled-ids = ap (map (λ (i : RowId). i.id)) (take-filled (row_id (Dof 0)) most (length is) (map row_id is) (length_ids is) few) ∙ ids-back is

module _ (k : Masks) where
  pub row_ids_array-len : (row_ids_array k).len ≡ length (row_ids 2 1 k)
  unfolding row_ids_array
  row_ids_array-len = refl

  pub row_ids_array-id : (i : ℕ) (d : RowId) (e : WritebackId) → i < length (row_ids 2 1 k) → (get_or (row_ids_array k).ids i d).id ≡ get_or (row_ids 2 1 k) i e
  unfolding row_ids_array
  row_ids_array-id = ids_filled-id 6 (row_ids 2 1 k) (at-most-six k)

  pub row_ids_array-ids : map (λ (i : RowId). i.id) (take (row_ids_array k).len (row_ids_array k).ids) ≡ row_ids 2 1 k
  unfolding row_ids_array
  row_ids_array-ids = ids_filled-ids 6 (row_ids 2 1 k) (at-most-six k)

-- ---- the rows that the builder makes

module _ (params : IntegrationParameters) (substep : ℕ) (warm : Option Float) (body1 body2 : SolverPose) (joint : ImpulseJoint) where
  pub length-builder_update_of : (prevs : List Float) → length (builder_update_of params substep warm body1 body2 joint prevs) ≡ length (row_ids 2 1 joint.«data».masks)
  unfolding builder_update_of
  length-builder_update_of prevs =
      let cx : RowContext = joint_context_of params body1 body2 joint in
      length-warmed_all with_impulse warm substep (seed_of joint) (row_ids 2 1 joint.«data».masks) prevs (update_of cx) (length-update_of cx ∙ rw context-joint)

  pub reads-no-row : (warm ≡ None) ⊎ (substep ≡ 0) → (ps qs : List Float) → builder_update_of params substep warm body1 body2 joint ps ≡ builder_update_of params substep warm body1 body2 joint qs
  reads-no-row (inl e) ps qs = rw e (cold params body1 body2 substep joint ps ∙ sym (cold params body1 body2 substep joint qs))
  reads-no-row (inr e) ps qs = rw e (first-reads-no-row params body1 body2 warm joint ps qs)
