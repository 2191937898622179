-- `signum` meets its contract: NaN of NaN, and otherwise 1 with the sign that `sign_bit` gives.
use Rattle.std.proofs.Common.{Bool, pos, sym, ap, ◌∙◌}
use lib.Ieee.{fin, neg, of_bits}
use Rattle.floats.specs.Sign.{signum_of}
use Rattle.floats.proofs.SignBit.{no_nan, is-nan, signum-is}
use Rattle.floats.proofs.sign.signum.Goals as goal

pub returns-then-x : goal.returns-then-x
unfolding signum_of
returns-then-x c = let n = is-nan c.args.x c.if-x.true in n ∙ sym (ap signum_of n)

pub returns-then-sign_bit : goal.returns-then-sign_bit
unfolding of_bits neg
returns-then-sign_bit c =
    let s = c in
    sym (signum-is s.args.x (no_nan s.args.x c.if-x.false)
    ∙ ap (λ (b : Bool). fin b 1 (pos 0)) (sym c.sign_bit.ensures ∙ c.if-sign_bit.true))

pub returns-else-sign_bit : goal.returns-else-sign_bit
unfolding of_bits
returns-else-sign_bit c =
    let s = c in
    sym (signum-is s.args.x (no_nan s.args.x c.if-x.false)
    ∙ ap (λ (b : Bool). fin b 1 (pos 0)) (sym c.sign_bit.ensures ∙ c.if-sign_bit.false))
