-- `run_rounds` meets its contract, a round a turn.
use Prim.Native.Nat.{◌-◌}
use mathlib.Core.Path.{◌≡◌}
use lib.ListN.{length}
use Rattle.study_run.specs.Study.{study_of}
use Rattle.study_run.specs.Settled.{rounds_from}
use Rattle.study_run.proofs.settling.run_rounds.Given as goal

abbrev pub invariant-loop-many : goal.invariant-loop-many
invariant-loop-many l =
    (length l.bodies ≡ length l.initial.bodies) × (length l.rows ≡ length l.initial.rows)
    × (rounds_from l.joints l.tolerance (l.most - l.many) l.many (study_of l.header l.found l.bodies l.words l.numbers l.rows) ≡ rounds_from l.joints l.tolerance l.most 0 (study_of l.header l.initial.found l.initial.bodies l.words l.numbers l.initial.rows))
