-- `Fields::none` meets its contract.
use Rattle.motor_table.proofs.record.Fields.none.Goals as goal

pub returns : goal.returns
returns c = simp (c.empty-3.ensures, c.empty-2.ensures, c.empty.ensures)
