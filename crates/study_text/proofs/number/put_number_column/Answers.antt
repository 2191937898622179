-- `put_number_column` meets its contract.
use native.Mathlib.Omega.{arith}
use mathlib.Core.Path.{ap}
use lib.IntN.{ℤ}
use Rattle.texts.proofs.SinkLaws.{appended-text}
use Rattle.motor_table.specs.Text.{number_text}
use Rattle.study_text.specs.Number.{signed, report_text, right_column}
use Rattle.study_text.proofs.NumberLaws.{read, column-by}
use Rattle.study_text.proofs.number.put_number_column.Goals as goal

pub returns-in-Whole : goal.returns-in-Whole
unfolding report_text
returns-in-Whole c = let z = c.in-Whole.n in column-by c.args.x _ c.in-Whole.ensures (appended-text (ap (λ (a : ℤ). right_column (number_text (signed a))) (read z (record { sfits = omega arith }))) c.put_right_whole.ensures)

pub returns-in-Over : goal.returns-in-Over
returns-in-Over c = column-by c.args.x _ c.in-Over.ensures c.put_right_spelled.ensures

pub returns-in-Nan : goal.returns-in-Nan
unfolding report_text
returns-in-Nan c = column-by c.args.x _ c.in-Nan.ensures c.put_right.ensures
