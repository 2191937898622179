-- `run_sweep` meets its contract, by that of the call.
use mathlib.Core.Path.{refl}
use Rattle.frames.specs.Studies.{plain}
use Rattle.multibody.specs.Calls.Call.{sweep}
use Rattle.study_run.proofs.RunLaws.{counted_ran}
use Rattle.study_run.proofs.runs.run_sweep.Goals as goal

pub returns : goal.returns
returns c = let a = c.args in rw (c.granted.ensures, c.kept.ensures, c.found.ensures) (counted_ran (plain (sweep a.n)) a.n _ a.motors _ c.sweep-swept.result (λ x. refl) c.sweep-swept.ensures.rows_after c.sweep-swept.ensures.filled)
