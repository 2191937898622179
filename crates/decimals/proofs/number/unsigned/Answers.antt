-- `unsigned` meets its contract.
use mathlib.Core.Path.{sym, ap, ◌∙◌}
use Rattle.std.proofs.Common.{Ok}
use Rattle.decimals.proofs.ReadLaws.{float-infinity}
use Rattle.decimals.proofs.WordLaws.{word-inf, word-decimal}
use Rattle.decimals.proofs.number.unsigned.Goals as goal

pub returns-then-is_inf : goal.returns-then-is_inf
returns-then-is_inf c = ap Ok c.signed.ensures ∙ word-inf _ _ _ float-infinity (sym c.is_inf.ensures ∙ c.if-is_inf.true)

pub returns : goal.returns
returns c = c.decimal_word.ensures ∙ word-decimal _ _ (sym c.is_inf.ensures ∙ c.if-is_inf.false)
