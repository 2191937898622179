-- `set_targets` meets its contract, whatever row storage there is.
use mathlib.Core.Path.{refl, sym, ◌∙◌}
use native.Mathlib.Omega.{arith}
use Rattle.multibody.specs.Calls.{granted_of}
use Rattle.model.specs.Planar.{plane}
use Rattle.multibody.proofs.CountLaws.{joints-numbers}
use Rattle.multibody.proofs.AnswerLaws.{not-granted, passed-on, table-numbered}
use Rattle.multibody.proofs.CallLaws.{refused-early, refused-late, granted-late, few_joints}
use Rattle.model.proofs.PlanarRules.{table-faulty, table-read}
use Rattle.model.proofs.PlanarLaws.{planar-laws}
use Rattle.model.proofs.calls.set_targets.Goals as goal

pub returns-in_err-model_refusal : goal.returns-in_err-model_refusal
returns-in_err-model_refusal c rows =
    rw (passed-on _ c.from_residual.ensures.1) (refused-early planar-laws _ _ _ c.in_err-model_refusal.ensures (not-granted _))

pub overflow_cast-joints : goal.overflow_cast-joints
overflow_cast-joints c =
    omega (arith, c.joint_count-joints.ensures, few_joints planar-laws _ _ c.in_ok-model_refusal.ensures refl)

pub set_table-requires : goal.set_table-requires
set_table-requires c =
    (rw c.joint_count-joints.ensures (joints-numbers plane _ _), sym c.read_table.ensures ∙ c.in_ok-n.was)

pub returns-in_err-n : goal.returns-in_err-n
returns-in_err-n c rows =
    let f = table-faulty _ _ c.joint_count-joints.ensures (sym c.read_table.ensures ∙ c.in_err-n.was) in
    rw (passed-on _ c.from_residual-in_err-n.ensures.1, table-numbered c.in_err-n.field-0.0)
    (refused-late planar-laws _ _ _ c.in_ok-model_refusal.ensures refl f.0 f.1)

pub returns : goal.returns
unfolding granted_of
returns c rows =
    rw (c.set_table.ensures, c.joint_count-joints.ensures)
    (granted-late planar-laws _ _ _ c.in_ok-model_refusal.ensures refl
    (table-read _ _ c.joint_count-joints.ensures (sym c.read_table.ensures ∙ c.in_ok-n.was)))
