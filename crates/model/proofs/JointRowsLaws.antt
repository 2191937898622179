-- Arrays of six that hold a joint's rows and ids: how many they hold, and which. What is read of them in turn is multibody's.
use Prim.Native.Nat.{ℕ, _<_}
use mathlib.Core.Path.{_≡_, ap, _∙_}
use mathlib.Core.Bool.{true}
use mathlib.Core.List.{List}
use lib.ListN.{length, getD}
use lib.Ieee.{Float}
use Rattle·rows.specs.GenericJoint.{isEnabled}
use Rattle·rows.specs.RowIds.{filled, rowIdsArray}
use Rattle·rows.specs.Update.{rowsArray, blankRow}
use Rattle·rows.specs.Builder.{builderUpdateOf}
use Rattle·rows.specs.declared.integration_parameters.IntegrationParameters.{IntegrationParameters}
use Rattle·rows.specs.declared.joint_constraint_builder.SolverPose.{SolverPose}
use Rattle·rows.specs.declared.joint_constraint_builder.ImpulseJoint.{ImpulseJoint}
use Rattle·rows.specs.declared.joint_constraint_builder.Warmstart.{Warmstart}
use Rattle·rows.specs.declared.joint_velocity_constraint.JointConstraint.{JointConstraint}
use Rattle·rows.specs.declared.joint_velocity_constraint.WritebackId.the-variants.{Dof}
use Rattle·rows.specs.declared.joint_velocity_constraint.Rows.{Rows}
use Rattle·rows.specs.declared.row_ids.RowId.{RowId}
use Rattle·rows.specs.declared.row_ids.RowIds.{RowIds}
use Rattle·rows.proofs.RowArrays.{rowsArray-len, rowsArray-rows, rowsArray-filled, rowIdsArray-len, rowIdsArray-id}
use Rattle·multibody.specs.JointRows.{jointIds, rowCount, rowMasksAt}
use Rattle·multibody.specs.Calls.{rowsFrom}
use Rattle·multibody.proofs.JointRowsLaws.{few-rows, count-built}
use Rattle·multibody.proofs.StoredRows.{rowsFrom-length}
use Rattle·model·specs.specs.Store.{jointAt, enabledAt}
use Rattle·model·specs.specs.JointRows.{rowsList}
use Rattle·model·specs.specs.Planar.{plane}
use Rattle·model·proofs.proofs.PlanarLaws.{planar-laws}

-- the array of the rows that are made: their number, and the rows themselves
module _ (params : IntegrationParameters) (substep : ℕ) (warm : Warmstart) (body1 body2 : SolverPose) (words : List ℕ) (numbers : List Float) (j : ℕ)
    {joint : ImpulseJoint} (prevs : List Float) {made : Rows} (on : isEnabled (enabledAt words j) ≡ true) (e : joint ≡ jointAt words numbers j)
    (m : made ≡ rowsArray (builderUpdateOf params substep warm body1 body2 joint prevs)) where
  count : length (builderUpdateOf params substep warm body1 body2 joint prevs) ≡ rowCount plane words j
  count = count-built planar-laws params substep warm body1 body2 words numbers j prevs on e

  pub built-len : made .len ≡ rowCount plane words j
  built-len = ap (λ m. m .len) m ∙ rowsArray-len (builderUpdateOf params substep warm body1 body2 joint prevs) ∙ count

  pub built-rows : rowsList made ≡ builderUpdateOf params substep warm body1 body2 joint prevs
  built-rows = ap (λ m. rowsList m) m ∙ rowsArray-rows (builderUpdateOf params substep warm body1 body2 joint prevs) (few-rows planar-laws words j count)

-- the array of a joint's ids
pub ids-len : (words : List ℕ) (j : ℕ) {ids : RowIds} → ids ≡ rowIdsArray (rowMasksAt plane words j) → ids .len ≡ rowCount plane words j
unfolding jointIds rowCount
ids-len words j e = ap (λ m. m .len) e ∙ rowIdsArray-len (rowMasksAt plane words j)

pub id-at : (words : List ℕ) (j i : ℕ) (d : RowId) {ids : RowIds} → i < rowCount plane words j → ids ≡ rowIdsArray (rowMasksAt plane words j)
    → getD (ids .ids) i d .id ≡ getD (jointIds plane words j) i (Dof 0)
unfolding jointIds rowCount
id-at words j i d h e = ap (λ m. getD (m .ids) i d .id) e ∙ rowIdsArray-id (rowMasksAt plane words j) i d (Dof 0) h

-- the array of the rows that are read, once it holds n
pub rows-array : (s : List Float) (k n : ℕ) {out : List JointConstraint} → out ≡ filled 6 blankRow (rowsFrom plane s k n)
    → _≡_ {A = Rows} (record { rows = out; len = n }) (rowsArray (rowsFrom plane s k n))
rows-array s k n e = cc (rowsArray-filled (rowsFrom plane s k n), rowsFrom-length plane s k n)
