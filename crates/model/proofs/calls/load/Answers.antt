-- `load` meets its contract.
use mathlib.Core.Path.{refl}
use Rattle.multibody.specs.Calls.{granted_of}
use Rattle.model.specs.Planar.{plane}
use Rattle.multibody.proofs.RuleLaws.{no-rules}
use Rattle.multibody.proofs.CountLaws.{joints-words}
use Rattle.multibody.proofs.AnswerLaws.{not-granted, passed-on}
use Rattle.multibody.proofs.CallLaws.{refused-early, granted-late, call-few-joints}
use Rattle.model.proofs.PlanarLaws.{planar-laws}
use Rattle.model.proofs.calls.load.Goals as goal

pub returns-in_err-storage_refusal : goal.returns-in_err-storage_refusal
returns-in_err-storage_refusal c =
    rw (passed-on _ c.from_residual.ensures.1) (refused-early planar-laws _ _ _ c.in_err-storage_refusal.ensures (not-granted _))

pub store_firsts-requires : goal.store_firsts-requires
store_firsts-requires c =
    record { n_le_most_joints = rw c.joint_count-joints.ensures (call-few-joints planar-laws _ _ _ c.in_ok-storage_refusal.ensures refl); words_width_in_bounds = rw c.joint_count-joints.ensures (joints-words plane _ _) }

pub returns : goal.returns
unfolding granted_of
returns c =
    rw (c.store_firsts.ensures, c.joint_count-joints.ensures) (granted-late planar-laws _ _ _ c.in_ok-storage_refusal.ensures refl no-rules)
