-- `put_csv_numbers` meets its contract: three numbers.
use Rattle.texts.proofs.SinkLaws.{appended_then}
use Rattle.study_text.specs.Csv.{csv_numbers}
use Rattle.study_text.proofs.csv.put_csv_numbers.Goals as goal

pub returns : goal.returns
unfolding csv_numbers
returns c = appended_then (appended_then c.put_csv_number-a.ensures c.put_csv_number-b.ensures) c.put_csv_number.ensures
