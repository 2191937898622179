-- `run_load` meets its contract, by that of the call.
use mathlib.Core.Path.{refl}
use Rattle.frames.specs.Studies.{plain}
use Rattle.multibody.specs.Calls.Answer.{granted}
use Rattle.multibody.specs.Calls.Call.{load}
use Rattle.study_run.proofs.RunLaws.{answered-ran, loaded-header}
use Rattle.study_run.proofs.runs.run_load.Goals as goal

pub returns : goal.returns
returns c = rw (c.granted.ensures, c.unwrap_or.ensures, loaded-header c.args.header c.load-answer.result) (answered-ran (λ a. granted) (λ a. refl) (plain load) _ c.load-answer.result c.load-answer.ensures)
