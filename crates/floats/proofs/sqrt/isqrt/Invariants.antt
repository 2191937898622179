-- `isqrt` meets its contract. The loop's invariant: the square of `low` is at most n, and that of `high`, which is at most 2^25, is above n.
-- The measure is the distance of the two. Assumes nothing.
use Rattle.std.proofs.Common.{◌-◌, ◌*◌, ◌<◌, ◌≤◌}
use Rattle.floats.proofs.sqrt.isqrt.Given as goal

abbrev pub invariant-loop-low : goal.invariant-loop-low
invariant-loop-low l = (l.low < l.high) × (l.high ≤ 33554432) × (l.low * l.low ≤ l.n) × (l.n < l.high * l.high)

abbrev pub decreases-loop-low : goal.decreases-loop-low
decreases-loop-low l = l.high - l.low
