-- `put_numbers` meets its contract: three columns.
use Rattle.texts.proofs.SinkLaws.{appended_then}
use Rattle.study_text.specs.Row.{numbers_text}
use Rattle.study_text.proofs.row.put_numbers.Goals as goal

pub returns : goal.returns
unfolding numbers_text
returns c = appended_then (appended_then c.put_number_column-a.ensures c.put_number_column-b.ensures) c.put_number_column.ensures
