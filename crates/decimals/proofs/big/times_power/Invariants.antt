-- `times_power` meets its contract. The loop's invariant: so many products are done.
use mathlib.Core.Path.{◌≡◌}
use Prim.Native.Nat.{◌*◌, ◌^◌}
use Rattle.decimals.specs.Limbs.{value}
use Rattle.decimals.proofs.big.times_power.Given as goal

abbrev pub invariant-loop : goal.invariant-loop
invariant-loop l = value l.r ≡ value l.initial.r * l.k ^ l.counter
