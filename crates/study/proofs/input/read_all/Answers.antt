use Rattle.std.proofs.Common.{sym, arith, length-take-le}
use Rattle.study.proofs.input.read_all.Goals as goal

pub returns-then-end-at-clause-prefix : goal.returns-then-end-at-clause-prefix
returns-then-end-at-clause-prefix g c = sym (length-take-le c.loop.at c.read_from.new.buf (omega arith))

pub returns-clause-prefix : goal.returns-clause-prefix
returns-clause-prefix g c = sym (length-take-le c.loop.at c.loop.buf (omega arith))
