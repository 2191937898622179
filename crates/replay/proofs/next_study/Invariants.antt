use Rattle.std.proofs.Common.{◌≤◌}
use Rattle.replay.proofs.next_study.Given as goal

abbrev pub invariant-loop-i : goal.invariant-loop-i
invariant-loop-i l = l.wrong ≤ l.i
