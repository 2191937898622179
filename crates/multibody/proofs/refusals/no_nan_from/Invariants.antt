-- `no_nan_from` meets its contract. Before turn i, what was so far and the numbers from place o + i on decide.
use Prim.Native.Nat.{◌+◌, ◌-◌, ◌≤◌}
use mathlib.Core.Path.{◌≡◌}
use mathlib.Core.Bool.{◌&&◌}
use lib.ListN.{replicate}
use Rattle.multibody.specs.Finite.{passes_from}
use Rattle.multibody.specs.Finite.Asks.{no_nan}
use Rattle.multibody.proofs.refusals.no_nan_from.Given as goal

abbrev pub invariant-loop-i : goal.invariant-loop-i
invariant-loop-i l = (l.i ≤ l.n) × ((l.no_nan && passes_from (replicate (l.n - l.i) no_nan) l.s (l.o + l.i)) ≡ passes_from (replicate l.n no_nan) l.s l.o)
