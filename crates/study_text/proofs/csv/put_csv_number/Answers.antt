-- `put_csv_number` meets its contract.
use mathlib.Core.Path.{ap, ◌∙◌}
use mathlib.Core.Bool.{false}
use Rattle.texts.specs.Hex.{hex_word}
use Rattle.texts.proofs.SinkLaws.{appended_then, appended-text}
use Rattle.study_text.specs.Csv.{field, csv_number}
use Rattle.study_text.proofs.csv.put_csv_number.Goals as goal

pub returns : goal.returns
unfolding csv_number field
returns c = appended_then (appended_then (appended_then c.put_millionths-a.ensures c.put_byte-b.ensures) (appended_then c.put_spelled-c.ensures c.put_byte-d.ensures)) (appended-text (ap field (c.hex_word.ensures ∙ ap (hex_word false) c.to_bits.ensures)) c.put_field.ensures)
