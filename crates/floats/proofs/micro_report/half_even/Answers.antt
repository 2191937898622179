-- `micro_report::half_even` meets its contract: each answer is the case of the definition that the tests left.
use Rattle.std.proofs.Common.{sym, mod-lt, div-le_self, arith}
use Rattle.floats.proofs.HalfEven.{below_half, above_half, at-half}
use Rattle.floats.proofs.micro_report.half_even.Goals as goal

pub overflow_mul-twice : goal.overflow_mul-twice
overflow_mul-twice c = omega (arith, mod-lt c.args.num c.requires.2)

pub returns-then-twice-den : goal.returns-then-twice-den
returns-then-twice-den c = sym (below_half c.args.num c.args.den c.if-twice-den.true)

pub overflow_add-result : goal.overflow_add-result
overflow_add-result c = omega (arith, div-le_self c.args.num c.args.den)

pub returns-then-twice-den-2 : goal.returns-then-twice-den-2
returns-then-twice-den-2 c = sym (above_half c.args.num c.args.den c.if-twice-den-2.true)

pub overflow_add-result-2 : goal.overflow_add-result-2
overflow_add-result-2 c = omega (arith, div-le_self c.args.num c.args.den)

pub returns : goal.returns
returns c = sym (at-half c.args.num c.args.den (omega arith))
