-- `put_field` meets its contract.
use Rattle.texts.proofs.SinkLaws.{appended_then}
use Rattle.study_text.specs.Csv.{field}
use Rattle.study_text.proofs.csv.put_field.Goals as goal

pub returns : goal.returns
unfolding field
returns c = appended_then c.put_text-end.ensures c.put_byte.ensures
