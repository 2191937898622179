-- `put_millionths` meets its contract.
use native.Mathlib.Omega.{arith}
use mathlib.Core.Path.{ap, ◌∙◌}
use Rattle.texts.proofs.SinkLaws.{appended-text}
use Rattle.motor_table.specs.Text.{number_text}
use Rattle.study_text.specs.Number.{signed, report_text}
use Rattle.study_text.proofs.NumberLaws.{read, millionths-by}
use Rattle.study_text.proofs.number.put_millionths.Goals as goal

pub returns-in-Whole : goal.returns-in-Whole
unfolding report_text
returns-in-Whole c = let z = c.in-Whole.n in millionths-by c.args.x _ c.in-Whole.ensures (appended-text (ap number_text (c.signed.ensures ∙ ap signed (read z (record { sfits = omega arith })))) c.put_number.ensures)

pub returns-in-Over : goal.returns-in-Over
unfolding report_text
returns-in-Over c = millionths-by c.args.x _ c.in-Over.ensures c.put_over.ensures

pub returns-in-Nan : goal.returns-in-Nan
unfolding report_text
returns-in-Nan c = millionths-by c.args.x _ c.in-Nan.ensures c.put_text.ensures
