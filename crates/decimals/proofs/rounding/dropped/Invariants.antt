-- `dropped` meets its contract. The loop's invariant: n / den has k binary digits beyond 24, or k is 0.
use mathlib.Core.Path.{◌≡◌}
use mathlib.Core.Logic.{◌⊎◌}
use Prim.Native.Nat.{◌≤◌, ◌<◌, ◌+◌, ◌-◌, ◌*◌, ◌^◌}
use Rattle.decimals.specs.Limbs.{value}
use Rattle.decimals.proofs.rounding.dropped.Given as goal

abbrev pub invariant-loop-n : goal.invariant-loop-n
invariant-loop-n l = (l.k < 400) × (value l.den * 2 ^ (l.k + 24) < 2 ^ 448) × ((l.k ≡ 0) ⊎ (value l.den * 2 ^ (l.k + 23) ≤ value l.n))

abbrev pub decreases-loop-n : goal.decreases-loop-n
decreases-loop-n l = 400 - l.k
