-- `load` meets its contract: no first row is stored.
use mathlib.Core.Path.{refl}
use Rattle.multibody.proofs.RuleLaws.{no-rules}
use Rattle.multibody.proofs.AnswerLaws.{not-granted, passed-on}
use Rattle.multibody.proofs.CallLaws.{refused-early, granted-late}
use Rattle.spatial_model.proofs.SpatialLaws.{spatial-laws}
use Rattle.spatial_model.proofs.CallLaws.{load-granted}
use Rattle.spatial_model.proofs.calls.load.Goals as goal

pub returns-in_err-storage_refusal : goal.returns-in_err-storage_refusal
returns-in_err-storage_refusal c =
    rw (passed-on _ c.from_residual.ensures.1) (refused-early spatial-laws _ _ _ c.in_err-storage_refusal.ensures (not-granted _))

pub returns : goal.returns
returns c = load-granted _ _ (granted-late spatial-laws _ _ _ c.in_ok-storage_refusal.ensures refl no-rules)
