-- The export of `read_number` meets its contract.
use mathlib.Core.Path.{sym, ap, ◌∙◌}
use Rattle.std.proofs.Common.{Err}
use Rattle.decimals.proofs.TextLaws.{export-number, export-digits, export-none}
use Rattle.decimals.proofs.exports.katydidzinc_decimals_read.Goals as goal

pub returns-in-Ok : goal.returns-in-Ok
returns-in-Ok c = c.to_bits.ensures ∙ export-number _ _ (sym c.read_number.ensures ∙ c.in-Ok.is)

pub returns-in-Err-TooManyDigits : goal.returns-in-Err-TooManyDigits
returns-in-Err-TooManyDigits c = export-digits _ (sym c.read_number.ensures ∙ c.in-Err-TooManyDigits.is ∙ ap Err c.in-Err-TooManyDigits.field-0-is)

pub returns-in-Err-NotANumber : goal.returns-in-Err-NotANumber
returns-in-Err-NotANumber c = export-none _ (sym c.read_number.ensures ∙ c.in-Err-NotANumber.is ∙ ap Err c.in-Err-NotANumber.field-0-is)
