-- `put_number` meets its contract: a minus where there is one, and digits.
use Rattle.std.proofs.Common.{sym}
use Rattle.texts.proofs.SinkLaws.{appended_then, appended-text}
use Rattle.motor_table.proofs.TextLaws.{minus-text, plain-text}
use Rattle.motor_table.proofs.text.put_number.Goals as goal

pub returns-then-n : goal.returns-then-n
returns-then-n c = appended-text (sym (minus-text c.args.n c.if-n.true)) (appended_then c.put_byte-a.ensures c.put_decimal.ensures)

pub returns : goal.returns
returns c = appended-text (sym (plain-text c.args.n c.if-n.false)) c.put_decimal-2.ensures
