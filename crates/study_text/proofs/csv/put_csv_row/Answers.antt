-- `put_csv_row` meets its contract.
use mathlib.Core.Path.{ap}
use Rattle.texts.proofs.SinkLaws.{appended_then, appended-text}
use Rattle.study_text.specs.Csv.{csv_values, csv_text}
use Rattle.study_text.specs.declared.rules.Rule.{Rule}
use Rattle.study_text.proofs.csv.put_csv_row.Goals as goal

pub returns : goal.returns
unfolding csv_text
returns c = let a = c.args in appended_then c.put_csv_names-a.ensures (appended-text (ap (λ (rule : Rule). csv_values a.id rule a.impulse a.low a.high a.residual) c.rule_of.ensures) c.put_csv_values.ensures)
