-- `put_field` meets its contract.
use Rattle.texts.proofs.SinkLaws.{appended_then}
use Rattle.motor_table.proofs.text.put_field.Goals as goal

pub returns : goal.returns
returns c = appended_then c.put_number-a.ensures c.put_byte.ensures
