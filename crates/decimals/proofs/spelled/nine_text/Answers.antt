-- `nine_text` meets its contract, byte by byte.
use Rattle.decimals.specs.Spelled.{nine_text}
use Rattle.decimals.proofs.spelled.nine_text.Goals as goal

pub returns : goal.returns
unfolding nine_text
returns c = simp (c.digit_at-a8.ensures, c.digit_at-a7.ensures, c.digit_at-a6.ensures, c.digit_at-a5.ensures, c.digit_at-a4.ensures, c.digit_at-a3.ensures, c.digit_at-a2.ensures, c.digit_at-a1.ensures, c.digit_at-a0.ensures, c.exponent_sign-sign.ensures, c.exponent_size-size.ensures, c.digit_at-e1.ensures, c.digit_at-e0.ensures)
