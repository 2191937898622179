-- `put_names` meets its contract: three columns.
use Rattle.texts.proofs.SinkLaws.{appended_then}
use Rattle.study_text.specs.Row.{names_text}
use Rattle.study_text.proofs.row.put_names.Goals as goal

pub returns : goal.returns
unfolding names_text
returns c = appended_then (appended_then c.put_column-a.ensures c.put_column-b.ensures) c.put_column.ensures
