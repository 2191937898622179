-- `run_masks` meets its contract, by that of the call.
use mathlib.Core.Path.{refl}
use Rattle.frames.specs.Studies.{plain}
use Rattle.multibody.specs.Calls.Answer.{granted}
use Rattle.multibody.specs.Calls.Call.{set_masks}
use Rattle.study_run.proofs.RunLaws.{answered-ran, loaded-header}
use Rattle.study_run.proofs.runs.run_masks.Goals as goal

pub returns : goal.returns
returns c = rw (c.granted.ensures, c.unwrap_or.ensures, loaded-header c.args.header c.set_masks-answer.result) (answered-ran (λ a. granted) (λ a. refl) (plain (set_masks _ _)) _ c.set_masks-answer.result c.set_masks-answer.ensures)
