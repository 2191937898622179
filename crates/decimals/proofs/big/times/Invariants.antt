-- `times` meets its contract. The loop's invariant: the limbs written so far, with the carry, are the product of those read so far.
use mathlib.Core.Path.{◌≡◌}
use Prim.Native.Nat.{◌≤◌, ◌+◌, ◌*◌}
use lib.ListN.{length, take}
use Rattle.decimals.specs.Limbs.{value}
use Rattle.decimals.proofs.LimbLaws.{W}
use Rattle.decimals.proofs.big.times.Given as goal

abbrev pub invariant-loop-i : goal.invariant-loop-i
invariant-loop-i l = (length l.r ≡ 14) × (length l.a ≡ 14) × (l.carry ≤ l.k) × (value (take l.i l.r) + l.carry * W l.i ≡ value (take l.i l.a) * l.k)
