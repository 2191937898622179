-- `put_csv_names` meets its contract: three fields.
use Rattle.texts.proofs.SinkLaws.{appended_then}
use Rattle.study_text.specs.Csv.{csv_names}
use Rattle.study_text.proofs.csv.put_csv_names.Goals as goal

pub returns : goal.returns
unfolding csv_names
returns c = appended_then (appended_then c.put_field-a.ensures c.put_field-b.ensures) c.put_field.ensures
