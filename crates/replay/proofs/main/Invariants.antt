use Rattle.std.proofs.Common.{◌*◌, ◌≤◌}
use Rattle.replay.proofs.main.Given as goal

abbrev pub invariant-loop-i : goal.invariant-loop-i
invariant-loop-i l = (l.run ≤ 1000 * l.i) × (l.wrong ≤ 1000 * l.i)
