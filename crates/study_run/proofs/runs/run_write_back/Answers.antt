-- `run_write_back` meets its contract, by that of the call.
use mathlib.Core.Path.{refl}
use Rattle.frames.specs.Studies.{plain}
use Rattle.multibody.specs.Calls.Answer.{granted}
use Rattle.multibody.specs.Calls.Call.{write_back}
use Rattle.study_run.proofs.RunLaws.{answered-ran}
use Rattle.study_run.proofs.runs.run_write_back.Goals as goal

pub returns : goal.returns
returns c = rw c.granted.ensures (answered-ran (λ a. granted) (λ a. refl) (plain write_back) _ c.write_back.result c.write_back.ensures)
