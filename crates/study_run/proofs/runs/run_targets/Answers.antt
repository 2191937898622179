-- `run_targets` meets its contract, by that of the call.
use mathlib.Core.Path.{refl}
use Rattle.frames.specs.Studies.{plain}
use Rattle.multibody.specs.Calls.Answer.{granted}
use Rattle.multibody.specs.Calls.Call.{further}
use Rattle.study_run.proofs.RunLaws.{answered-ran}
use Rattle.study_run.proofs.runs.run_targets.Goals as goal

pub returns : goal.returns
returns c = rw c.granted.ensures (answered-ran (λ a. granted) (λ a. refl) (plain (further _)) _ c.set_targets.result (c.set_targets.ensures _))
