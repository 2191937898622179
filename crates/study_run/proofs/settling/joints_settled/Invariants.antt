-- `joints_settled` meets its contract, a joint a turn.
use Prim.Native.Nat.{◌-◌}
use mathlib.Core.Path.{◌≡◌}
use Rattle.model.specs.Model.{model_of}
use Rattle.study_run.specs.Settled.{joints_settled}
use Rattle.study_run.proofs.settling.joints_settled.Given as goal

abbrev pub invariant-loop-j : goal.invariant-loop-j
invariant-loop-j l =
    joints_settled l.tolerance (model_of l.header l.bodies l.words l.numbers) l.rows l.j (l.joints - l.j) ≡ joints_settled l.tolerance (model_of l.header l.bodies l.words l.numbers) l.rows 0 l.joints
