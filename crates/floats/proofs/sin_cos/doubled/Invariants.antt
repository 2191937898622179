-- `doubled` meets its contract. The invariant: w is d · 2 ^ i units with whole turns off, after i doublings.
use Rattle.std.proofs.Common.{◌≡◌, ◌*◌, ◌%◌, ◌^◌, ◌<◌}
use Rattle.floats.specs.SinCos.{turn}
use Rattle.floats.proofs.sin_cos.doubled.Given as goal

abbrev pub invariant-loop : goal.invariant-loop
invariant-loop l = (l.w < turn) × (l.w ≡ l.d * 2 ^ l.counter % turn)
