-- `put_values` meets its contract.
use mathlib.Core.Path.{ap}
use Rattle.std.specs.Prelude.{Option}
use Rattle.texts.proofs.SinkLaws.{appended_then, appended-text}
use Rattle.study_text.specs.Words.{bound_text}
use Rattle.study_text.specs.Row.{column, standing_text, values_text}
use Rattle.study_text.specs.declared.words.Bound.{Bound}
use Rattle.study_text.proofs.row.put_values.Goals as goal

pub returns : goal.returns
unfolding values_text standing_text
returns c = appended_then (appended_then c.put_id_column-a.ensures c.put_numbers-b.ensures) (appended_then c.put_right_spelled-c.ensures (appended-text (ap (λ (b : Option Bound). column 4 (bound_text b)) c.bound_of.ensures) c.put_bound.ensures))
