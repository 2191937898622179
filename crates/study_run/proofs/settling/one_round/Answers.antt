-- `one_round` meets its contract, by that of the sweep.
use mathlib.Core.Path.{refl, ap}
use Rattle.frames.specs.Studies.{plain}
use Rattle.multibody.specs.Calls.Call.{sweep}
use Rattle.study_run.specs.Study.{Ran}
use Rattle.study_run.proofs.RunLaws.{counted_ran}
use Rattle.study_run.proofs.settling.one_round.Goals as goal

pub returns : goal.returns
returns c =
    rw (c.kept.ensures, c.found.ensures) (ap (λ (x : Ran). x.left) (counted_ran (plain (sweep 1)) 1 _ c.args.motors _ c.sweep.result (λ x. refl) c.sweep.ensures.rows_after c.sweep.ensures.filled))
