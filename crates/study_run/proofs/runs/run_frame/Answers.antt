-- `run_frame` meets its contract, by that of the frame.
use mathlib.Core.Path.{refl}
use Rattle.frames.specs.Studies.{frame}
use Rattle.frames.specs.Frames.{frame_counts}
use Rattle.study_run.specs.Motors.{forgotten}
use Rattle.study_run.specs.Study.{study_of}
use Rattle.study_run.proofs.RunLaws.{counted_ran, none_found}
use Rattle.study_run.proofs.runs.run_frame.Goals as goal

pub returns-in-Ok : goal.returns-in-Ok
returns-in-Ok c =
    let a = c.args in
    rw c.kept.ensures (rw c.in-Ok.is at (counted_ran (frame a.warmstart a.sweeps a.n) a.sweeps _ forgotten (study_of a.header a.motors a.bodies.now a.words.now a.numbers.now a.rows.now) (frame_counts c.frame.result) (λ x. refl) c.frame.ensures.rows_after c.frame.ensures.filled))

pub returns-in-Err : goal.returns-in-Err
returns-in-Err c =
    let a = c.args in
    rw (c.kept-in-Err.ensures, none_found) (rw c.in-Err.is at (counted_ran (frame a.warmstart a.sweeps a.n) a.sweeps _ forgotten (study_of a.header a.motors a.bodies.now a.words.now a.numbers.now a.rows.now) (frame_counts c.frame.result) (λ x. refl) c.frame.ensures.rows_after c.frame.ensures.filled))
