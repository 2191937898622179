-- `sign_bit` meets its contract: a value that differs from itself is a NaN, and of any other the sign is the pattern's top bit.
use Rattle.std.proofs.Common.{T, sym, ap, subst}
use Rattle.floats.specs.Sign.{sign_bit}
use Rattle.floats.proofs.SignBit.{no_nan, is-nan, top_bit}
use Rattle.floats.proofs.sign.sign_bit.Goals as goal

pub returns-then-x : goal.returns-then-x
unfolding sign_bit
returns-then-x c = sym (ap sign_bit (is-nan c.args.x c.if-x.true))

pub float_to_bits-result : goal.float_to_bits-result
float_to_bits-result c = no_nan c.args.x c.if-x.false

pub returns : goal.returns
returns c = top_bit c.args.x (subst T (sym c.well_formed.0.1) tt) (no_nan c.args.x c.if-x.false)
