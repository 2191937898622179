-- `first_refused` meets its contract, a joint a turn.
use Prim.Native.Nat.{◌-◌}
use mathlib.Core.Path.{◌≡◌}
use Rattle.model.specs.Model.{model_of}
use Rattle.study_run.specs.Runs.{first_refused}
use Rattle.study_run.proofs.runs.first_refused.Given as goal

abbrev pub invariant-loop-j : goal.invariant-loop-j
invariant-loop-j l =
    first_refused (model_of l.header l.bodies l.words l.numbers) l.rows l.j (l.joints - l.j) ≡ first_refused (model_of l.header l.bodies l.words l.numbers) l.rows 0 l.joints
