-- `sign_of` meets its contract: each answer is the case that the test left.
use mathlib.Core.Path.{sym, ◌∙◌}
use Rattle.spatial_floats.specs.Sign.{sign_of}
use Rattle.spatial_floats.proofs.sign.sign_of.Goals as goal

pub returns-then-sign_bit : goal.returns-then-sign_bit
unfolding sign_of
returns-then-sign_bit c = simp (sym c.sign_bit.ensures ∙ c.if-sign_bit.true)

pub returns-else-sign_bit : goal.returns-else-sign_bit
unfolding sign_of
returns-else-sign_bit c = simp (sym c.sign_bit.ensures ∙ c.if-sign_bit.false)
