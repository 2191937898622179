use Rattle.std.proofs.Common.{◌≤◌}
use Rattle.study.proofs.draw.Drawing.rank_of.Given as goal

-- No more labels stand above than were looked at.
abbrev pub invariant-loop-i : goal.invariant-loop-i
invariant-loop-i l = l.above ≤ l.i
