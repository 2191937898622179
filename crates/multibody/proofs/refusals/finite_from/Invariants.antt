-- `finite_from` meets its contract. Before turn i, what was so far and the numbers from place o + i on decide.
use Prim.Native.Nat.{◌+◌, ◌-◌, ◌≤◌}
use mathlib.Core.Path.{◌≡◌}
use mathlib.Core.Bool.{◌&&◌}
use lib.ListN.{replicate}
use Rattle.multibody.specs.Finite.{passes_from}
use Rattle.multibody.specs.Finite.Asks.{finite}
use Rattle.multibody.proofs.refusals.finite_from.Given as goal

abbrev pub invariant-loop-i : goal.invariant-loop-i
invariant-loop-i l = (l.i ≤ l.n) × ((l.finite && passes_from (replicate (l.n - l.i) finite) l.s (l.o + l.i)) ≡ passes_from (replicate l.n finite) l.s l.o)
