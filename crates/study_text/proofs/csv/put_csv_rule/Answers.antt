-- `put_csv_rule` meets its contract.
use Rattle.texts.proofs.SinkLaws.{appended_then, appended-text}
use Rattle.study_text.specs.Csv.{field, csv_end, csv_rule}
use Rattle.study_text.proofs.csv.put_csv_rule.Goals as goal

pub returns : goal.returns
unfolding csv_rule csv_end field
returns c = appended_then (appended_then (appended-text c.bound_field.ensures c.put_text-a.ensures) (appended_then c.put_rule_number-b.ensures c.put_byte-c.ensures)) (appended_then c.put_definition-d.ensures c.put_text.ensures)
