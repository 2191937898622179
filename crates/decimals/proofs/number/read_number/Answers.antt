-- `read_number` meets its contract.
use mathlib.Core.Path.{sym, ◌∙◌}
use Rattle.decimals.proofs.WordLaws.{word-empty, word-plus, word-minus, word-bits, word-other}
use Rattle.decimals.proofs.number.read_number.Goals as goal

pub returns-then-word-eq0 : goal.returns-then-word-eq0
returns-then-word-eq0 c = word-empty _ c.if-word-eq0.true

pub returns-then-b-eq43 : goal.returns-then-b-eq43
returns-then-b-eq43 c = c.unsigned.ensures ∙ word-plus _ c.if-word-eq0.false c.if-b-eq43.true

pub returns-then-b-eq45 : goal.returns-then-b-eq45
returns-then-b-eq45 c = c.unsigned-then-b-eq45.ensures ∙ word-minus _ c.if-word-eq0.false c.if-b-eq43.false c.if-b-eq45.true

pub returns-then-is_hex : goal.returns-then-is_hex
returns-then-is_hex c = c.bits_word.ensures ∙ word-bits _ c.if-word-eq0.false c.if-b-eq43.false c.if-b-eq45.false (sym c.is_hex.ensures ∙ c.if-is_hex.true)

pub returns : goal.returns
returns c = c.unsigned-2.ensures ∙ word-other _ c.if-word-eq0.false c.if-b-eq43.false c.if-b-eq45.false (sym c.is_hex.ensures ∙ c.if-is_hex.false)
