-- `digits_at` meets its contract. The loop's invariant: what the digits from `i` on add to the value, and how many they are, is what those from the start do.
use mathlib.Core.Path.{◌≡◌}
use Prim.Native.Nat.{◌≤◌, ◌+◌, ◌-◌, ◌^◌}
use lib.ListN.{length, drop}
use Rattle.decimals.specs.Words.{digits_count, digits_value}
use Rattle.decimals.specs.Capped.{cap}
use Rattle.decimals.proofs.digits.digits_at.Given as goal

abbrev pub invariant-loop-i : goal.invariant-loop-i
invariant-loop-i l =
    (l.value ≤ 10 ^ 19) × (cap (digits_value l.value (drop l.i l.word)) ≡ cap (digits_value l.v (drop l.at l.word))) × (l.i + digits_count (drop l.i l.word) ≡ l.at + digits_count (drop l.at l.word))

abbrev pub decreases-loop-i : goal.decreases-loop-i
decreases-loop-i l = length l.word - l.i
