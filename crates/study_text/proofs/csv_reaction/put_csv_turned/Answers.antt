-- `put_csv_turned` meets its contract.
use mathlib.Core.Path.{ap}
use Rattle.texts.proofs.SinkLaws.{appended_then, appended-text}
use Rattle.study_text.specs.Csv.{field}
use Rattle.study_text.specs.CsvReaction.{csv_turned}
use Rattle.study_text.proofs.csv_reaction.put_csv_turned.Goals as goal

pub returns : goal.returns
unfolding csv_turned field
returns c = appended_then (appended_then c.put_csv_number-a.ensures (appended-text (ap field c.motors_digit.ensures) (appended_then c.put_byte-b.ensures c.put_byte-c.ensures))) c.put_text.ensures
