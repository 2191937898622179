-- `put_row` meets its contract.
use mathlib.Core.Path.{ap}
use Rattle.texts.proofs.SinkLaws.{appended_then, appended-text}
use Rattle.study_text.specs.Row.{rule_text, line_with, row_text}
use Rattle.study_text.proofs.row.put_row.Goals as goal

pub returns : goal.returns
unfolding row_text line_with
returns c = appended_then (appended_then c.put_names-a.ensures c.put_values-b.ensures) (appended-text (ap rule_text c.rule_of.ensures) c.put_rule.ensures)
