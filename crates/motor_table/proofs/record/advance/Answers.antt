-- `advance` meets its contract, move by move.
use Rattle.std.proofs.Common.{sym, ◌∙◌}
use Rattle.motor_table.specs.Scan.{moved_of}
use Rattle.motor_table.proofs.record.advance.Goals as goal

pub returns-in-Take : goal.returns-in-Take
unfolding moved_of
returns-in-Take c = simp (sym c.move_at.ensures ∙ c.in-Take.is, c.push.ensures)

pub returns-in-Skip : goal.returns-in-Skip
unfolding moved_of
returns-in-Skip c = simp (sym c.move_at.ensures ∙ c.in-Skip.is)

pub returns-in-NextField : goal.returns-in-NextField
unfolding moved_of
returns-in-NextField c = simp (sym c.move_at.ensures ∙ c.in-NextField.is, c.close.ensures, c.empty.ensures)

pub returns-in-End : goal.returns-in-End
unfolding moved_of
returns-in-End c = simp (sym c.move_at.ensures ∙ c.in-End.is, c.close-in-End.ensures)

pub returns-in-Fault : goal.returns-in-Fault
unfolding moved_of
returns-in-Fault c = simp (sym c.move_at.ensures ∙ c.in-Fault.is)
