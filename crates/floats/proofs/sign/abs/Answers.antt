-- `abs` meets its contract: a value with its sign bit set is negated.
use Rattle.std.proofs.Common.{sym, ◌∙◌}
use Rattle.floats.proofs.SignBit.{abs-set, abs-clear}
use Rattle.floats.proofs.sign.abs.Goals as goal

pub returns-then-sign_bit : goal.returns-then-sign_bit
returns-then-sign_bit c = abs-set c.args.x (sym c.sign_bit.ensures ∙ c.if-sign_bit.true)

pub returns-else-sign_bit : goal.returns-else-sign_bit
returns-else-sign_bit c = abs-clear c.args.x (sym c.sign_bit.ensures ∙ c.if-sign_bit.false)
