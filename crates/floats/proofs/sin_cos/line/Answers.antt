-- `line` meets its contract: the rise is at most the second entry less the first, so that every number fits.
use Rattle.std.proofs.Common.{◌-◌, ◌^◌, ◌≤◌, mul-le-mul, arith}
use Rattle.floats.specs.Angle.{quarter_turn}
use Rattle.floats.proofs.SinesLaws.{line-le}
use Rattle.floats.proofs.sin_cos.line.Goals as goal

pub overflow_mul-result : goal.overflow_mul-result
overflow_mul-result c =
    let d : c.args.to - c.args.from ≤ 2 ^ 32 = omega arith in
    let r : c.args.rest ≤ 2 ^ 31 = omega arith in
    omega (arith, mul-le-mul d r)

pub overflow_cast-result-2 : goal.overflow_cast-result-2
overflow_cast-result-2 c =
    let r : c.args.rest ≤ quarter_turn = omega arith in
    omega (arith, line-le (c.args.to - c.args.from) c.args.rest r)

pub overflow_add-result : goal.overflow_add-result
overflow_add-result c =
    let r : c.args.rest ≤ quarter_turn = omega arith in
    omega (arith, line-le (c.args.to - c.args.from) c.args.rest r)
