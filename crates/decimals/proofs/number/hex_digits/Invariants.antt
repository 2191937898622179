-- `hex_digits` meets its contract. The loop's invariant: the digits that are left, after the value so far, are all of them.
use mathlib.Core.Path.{◌≡◌}
use Prim.Native.Nat.{◌<◌, ◌-◌, ◌^◌}
use lib.ListN.{drop}
use Rattle.decimals.specs.Words.{bits_after}
use Rattle.decimals.proofs.number.hex_digits.Given as goal

abbrev pub invariant-loop-i : goal.invariant-loop-i
invariant-loop-i l = (l.v < 16 ^ (l.i - 2)) × (bits_after l.v (drop l.i l.word) ≡ bits_after 0 (drop 2 l.word))
