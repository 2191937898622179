-- `at_most` meets its contract. The loop's invariant: the limbs from `i` on are those of both numbers.
use mathlib.Core.Path.{◌≡◌}
use Prim.Native.Nat.{◌≤◌}
use lib.ListN.{length, drop}
use Rattle.decimals.specs.Limbs.{value}
use Rattle.decimals.proofs.big.at_most.Given as goal

abbrev pub invariant-loop-i : goal.invariant-loop-i
invariant-loop-i l = (l.i ≤ 14) × (length l.a ≡ 14) × (length l.b ≡ 14) × (value (drop l.i l.a) ≡ value (drop l.i l.b))
