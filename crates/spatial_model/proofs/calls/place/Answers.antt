-- `place` meets its contract, whatever row storage there is.
use mathlib.Core.Path.{refl, ◌∙◌}
use native.Mathlib.Omega.{arith}
use Rattle.multibody.specs.Calls.{granted_of}
use Rattle.spatial_model.specs.Spatial.{space}
use Rattle.multibody.proofs.CountLaws.{body-there}
use Rattle.multibody.proofs.RuleLaws.{no-rules}
use Rattle.multibody.proofs.AnswerLaws.{not-granted, passed-on}
use Rattle.multibody.proofs.CallLaws.{refused-early, refused-late, granted-late, no_body, some-body}
use Rattle.spatial_model.proofs.SpatialLaws.{spatial-laws}
use Rattle.spatial_model.proofs.calls.place.Goals as goal

pub returns-in_err-model_refusal : goal.returns-in_err-model_refusal
returns-in_err-model_refusal c rows =
    rw (passed-on _ c.from_residual.ensures.1) (refused-early spatial-laws _ _ _ (rw c.finite_pose.ensures at c.in_err-model_refusal.ensures) (not-granted _))

pub returns-then-body-body_count : goal.returns-then-body-body_count
returns-then-body-body_count c rows =
    refused-late spatial-laws _ _ _ (rw c.finite_pose.ensures at c.in_ok-model_refusal.ensures) refl
    (no_body space _ _ _ c.body_count.ensures c.if-body-body_count.true) (omega arith)

pub put_pose-requires : goal.put_pose-requires
put_pose-requires c =
    body-there space _ _ (rw c.body_count.ensures at c.if-body-body_count.false)

pub returns : goal.returns
unfolding granted_of
returns c rows =
    rw c.put_pose.ensures
    (granted-late spatial-laws _ _ _ (rw c.finite_pose.ensures at c.in_ok-model_refusal.ensures) refl
    (some-body space _ _ _ c.body_count.ensures c.if-body-body_count.false ∙ no-rules))
