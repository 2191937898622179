-- `start` meets its contract.
use Rattle.motor_table.proofs.record.start.Goals as goal

pub returns : goal.returns
returns c = simp (c.none.ensures, c.empty.ensures)
