-- `draw` meets its contract: after i turns the state is that after i draws.
use Rattle.std.proofs.Common.{◌≡◌}
use Rattle.seeded.specs.Draws.{state_after}
use Rattle.seeded.proofs.draws.draw.Given as goal

abbrev pub invariant-loop-i : goal.invariant-loop-i
invariant-loop-i l = l.s ≡ state_after l.seed l._i
