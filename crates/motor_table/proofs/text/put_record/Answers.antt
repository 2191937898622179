-- `put_record` meets its contract: two fields, the last number, and CRLF.
use Rattle.texts.proofs.SinkLaws.{appended_then}
use Rattle.motor_table.specs.Text.{record_text}
use Rattle.motor_table.proofs.text.put_record.Goals as goal

pub returns : goal.returns
unfolding record_text
returns c = appended_then c.put_field-a.ensures (appended_then c.put_field-b.ensures (appended_then c.put_number-c.ensures c.put_text.ensures))
