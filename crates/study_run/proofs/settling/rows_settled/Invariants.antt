-- `rows_settled` meets its contract. Before turn k, the rows from k on decide.
use Prim.Native.Nat.{◌≤◌}
use mathlib.Core.Path.{◌≡◌}
use lib.ListN.{length, drop}
use Rattle.rows.specs.Reaction.{rows_in}
use Rattle.study_run.specs.Settled.{rows_settled}
use Rattle.study_run.proofs.settling.rows_settled.Given as goal

abbrev pub invariant-loop-k : goal.invariant-loop-k
invariant-loop-k l =
    (l.n ≤ 6) × (l.n ≡ length (rows_in l.made)) × (rows_settled l.tolerance l.bodies l.words l.joint (drop l.k (rows_in l.made)) ≡ rows_settled l.tolerance l.bodies l.words l.joint (rows_in l.made))
