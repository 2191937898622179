-- `put_turned` meets its contract.
use mathlib.Core.Path.{ap}
use Rattle.texts.proofs.SinkLaws.{appended_then, appended-text}
use Rattle.study_text.specs.Row.{column}
use Rattle.study_text.specs.Reaction.{turned_text}
use Rattle.study_text.proofs.reaction.put_turned.Goals as goal

pub returns : goal.returns
unfolding turned_text column
returns c = appended_then (appended_then c.put_number_column-a.ensures (appended-text (ap (column 6) c.motors_digit.ensures) (appended_then c.put_byte-b.ensures c.put_text-c.ensures))) c.put_text.ensures
