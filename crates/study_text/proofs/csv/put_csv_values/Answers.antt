-- `put_csv_values` meets its contract.
use mathlib.Core.Path.{ap}
use Rattle.std.specs.Prelude.{Option}
use Rattle.texts.proofs.SinkLaws.{appended_then, appended-text}
use Rattle.study_text.specs.Csv.{csv_rule, csv_standing, csv_values}
use Rattle.study_text.specs.declared.words.Bound.{Bound}
use Rattle.study_text.proofs.csv.put_csv_values.Goals as goal

pub returns : goal.returns
unfolding csv_values csv_standing
returns c = appended_then (appended_then c.put_csv_id-a.ensures c.put_csv_numbers-b.ensures) (appended_then c.put_csv_number-c.ensures (appended-text (ap (λ (b : Option Bound). csv_rule b c.args.rule) c.bound_of.ensures) c.put_csv_rule.ensures))
