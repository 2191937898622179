-- `field_of` meets its contract: its text has the rows of the table.
use mathlib.Core.Path.{refl, ◌∙◌}
use Rattle.texts.specs.Digits.{is_digit}
use Rattle.motor_table.specs.WholeNumber.{digits_after}
use Rattle.study_reader.specs.Words.{has, is_blank, ends_word, run_of, line_count, next_word, next_line, bytes_of, whole_up_to, whole_number}
use Rattle.study_reader.proofs.KeywordLaws.{rows_in, field-by-table}
use Rattle.study_reader.proofs.fields.field_of.Goals as goal

pub returns : goal.returns
unfolding has is_blank ends_word run_of line_count next_word next_line bytes_of whole_up_to whole_number digits_after is_digit rows_in
returns c = c.field_in.ensures ∙ field-by-table _ _ refl _ refl
