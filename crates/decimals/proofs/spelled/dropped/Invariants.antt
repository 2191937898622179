-- `dropped` meets its contract. The loop's invariant: so many places are dropped, and more may have to be.
use mathlib.Core.Path.{◌≡◌}
use Prim.Native.Nat.{◌<◌, ◌-◌, ◌*◌, ◌^◌}
use Rattle.decimals.specs.Limbs.{value}
use Rattle.decimals.specs.Spelled.{fewer, places_from}
use Rattle.decimals.proofs.spelled.dropped.Given as goal

abbrev pub invariant-loop-places : goal.invariant-loop-places
invariant-loop-places l =
    (value l.den ≡ fewer l.places)
    × (places_from (83 - l.places) (value l.twice) l.places ≡ places_from 83 (value l.twice) 0)
    × (0 < value l.den)
    × (value l.den * 2000000000 < 2 ^ 448)
