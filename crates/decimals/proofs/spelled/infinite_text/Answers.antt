-- `infinite_text` meets its contract.
use mathlib.Core.Path.{sym, ap}
use mathlib.Core.Bool.{Bool}
use lib.Ieee.{inf}
use Rattle.decimals.specs.Spelled.{nine_digits, spelled}
use Rattle.decimals.proofs.spelled.infinite_text.Goals as goal

pub returns-then-negative : goal.returns-then-negative
unfolding spelled nine_digits
returns-then-negative c = sym (ap (λ (b : Bool). spelled (nine_digits (inf b))) c.if-negative.true)

pub returns : goal.returns
unfolding spelled nine_digits
returns c = sym (ap (λ (b : Bool). spelled (nine_digits (inf b))) c.if-negative.false)
