-- `quotient` meets its contract. The loop's invariant: the quotient is at least `low` and below `high`.
use Prim.Native.Nat.{◌≤◌, ◌<◌, ◌-◌, ◌*◌}
use Rattle.decimals.specs.Limbs.{value}
use Rattle.decimals.proofs.rounding.quotient.Given as goal

abbrev pub invariant-loop-low : goal.invariant-loop-low
invariant-loop-low l = (l.low < l.high) × (l.high ≤ l.most) × (value l.d * l.low ≤ value l.n) × (value l.n < value l.d * l.high)

abbrev pub decreases-loop-low : goal.decreases-loop-low
decreases-loop-low l = l.high - l.low
