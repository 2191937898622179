-- `run_build` meets its contract, by that of the call.
use mathlib.Core.Path.{refl}
use Rattle.frames.specs.Studies.{plain}
use Rattle.multibody.specs.Calls.Answer.{total}
use Rattle.multibody.specs.Calls.Call.{build}
use Rattle.study_run.specs.Study.{study_of}
use Rattle.study_run.proofs.RunLaws.{answered-ran}
use Rattle.study_run.proofs.runs.run_build.Goals as goal

pub returns-in-Ok : goal.returns-in-Ok
returns-in-Ok c = let a = c.args in rw c.in-Ok.is at (answered-ran (λ b. total b.1) (λ b. refl) (plain (build a.warmstart a.substep)) (study_of a.header a.motors a.bodies.now a.words.now a.numbers.now a.rows.now) c.build.result c.build.ensures)

pub returns-in-Err : goal.returns-in-Err
returns-in-Err c = let a = c.args in rw c.in-Err.is at (answered-ran (λ b. total b.1) (λ b. refl) (plain (build a.warmstart a.substep)) (study_of a.header a.motors a.bodies.now a.words.now a.numbers.now a.rows.now) c.build.result c.build.ensures)
