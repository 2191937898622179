-- `run_warm_start` meets its contract, by that of the call.
use mathlib.Core.Path.{refl}
use Rattle.frames.specs.Studies.{plain}
use Rattle.multibody.specs.Calls.Answer.{granted}
use Rattle.multibody.specs.Calls.Call.{warm_start}
use Rattle.study_run.proofs.RunLaws.{answered-ran}
use Rattle.study_run.proofs.runs.run_warm_start.Goals as goal

pub returns : goal.returns
returns c = rw c.granted.ensures (answered-ran (λ a. granted) (λ a. refl) (plain warm_start) _ c.warm_start.result c.warm_start.ensures)
