use Rattle.std.proofs.Common.{◌≤◌}
use Rattle.vectors.proofs.main.Given as goal

-- Each line is counted, so no more lines are wrong than were read.
abbrev pub invariant-loop-turn : goal.invariant-loop-turn
invariant-loop-turn l = (l.lines ≤ l._turn) × (l.wrong ≤ l._turn)
