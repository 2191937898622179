use Rattle.std.proofs.Common.{◌≡◌, ℕ, ◌+◌, ◌*◌, ◌/◌, ◌^◌, ◌<◌, ◌≤◌, mul-le-mul, arith}
use Rattle.floats.proofs.Isqrt.{isqrt-only}
use Rattle.floats.proofs.sqrt.isqrt.Goals as goal

square-fits : (a : ℕ) → a ≤ 33554432 → a * a < 2 ^ 64
square-fits a h = omega (arith, mul-le-mul h h)

-- where the two bounds are neighbours
square-up : (n low high : ℕ) → high ≡ low + 1 → n < high * high → n < (low + 1) * (low + 1)
square-up n low high e h = rw (← e) h

pub loop-low-init : goal.loop-low-init
loop-low-init c = omega arith

pub overflow_add-low : goal.overflow_add-low
overflow_add-low c = omega arith

pub overflow_add-middle : goal.overflow_add-middle
overflow_add-middle c = omega arith

pub overflow_mul-middle : goal.overflow_mul-middle
overflow_mul-middle c = record { fits = square-fits ((c.loop-low.low + c.loop-low.high) / 2) (omega arith) }

pub loop-low-smaller-then-middle-n : goal.loop-low-smaller-then-middle-n
loop-low-smaller-then-middle-n c = omega arith

pub loop-low-preserved-then-middle-n : goal.loop-low-preserved-then-middle-n
loop-low-preserved-then-middle-n c = omega arith

pub loop-low-smaller : goal.loop-low-smaller
loop-low-smaller c = omega arith

pub loop-low-preserved : goal.loop-low-preserved
loop-low-preserved c = omega arith

pub returns : goal.returns
returns c =
    let low = c.loop-low.low in
    isqrt-only c.args.n low (omega arith) (square-up c.args.n low c.loop-low.high (omega arith) (omega arith))
