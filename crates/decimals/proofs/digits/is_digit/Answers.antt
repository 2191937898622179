-- `is_digit` meets its contract.
use mathlib.Core.Path.{sym, ◌∙◌}
use borrow.Author.Tests.{lt-leb}
use Rattle.decimals.proofs.CapLaws.{digit_low, digit-high}
use Rattle.decimals.proofs.digits.is_digit.Goals as goal

pub returns-else-b-ge48 : goal.returns-else-b-ge48
returns-else-b-ge48 c = lt-leb 48 _ c.if-b-ge48.false ∙ digit_low _ c.if-b-ge48.false

pub returns-then-b-ge48 : goal.returns-then-b-ge48
returns-then-b-ge48 c = sym (digit-high _ c.if-b-ge48.true)
