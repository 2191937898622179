-- `write_table` meets its contract: a first run tells the length.
use Rattle.std.proofs.Common.{sym, ◌∙◌}
use Rattle.texts.proofs.SinkLaws.{wrote-there, wrote_nothing}
use Rattle.motor_table.proofs.WriteLaws.{refused-answer, granted-answer}
use Rattle.motor_table.proofs.text.write_table.Goals as goal

pub returns-in-Some : goal.returns-in-Some
returns-in-Some c = refused-answer _ _ (sym c.table_refusal.ensures ∙ c.in-Some.is) _

pub returns-then-has_room : goal.returns-then-has_room
returns-then-has_room c = granted-answer _ (wrote-there c.put_table-len.ensures _ (sym c.has_room.ensures ∙ c.if-has_room.true) c.put_table.ensures) _ (sym c.table_refusal.ensures ∙ c.in-None.is)

pub returns-else-has_room : goal.returns-else-has_room
returns-else-has_room c = granted-answer _ (wrote_nothing c.put_table-len.ensures _ (sym c.has_room.ensures ∙ c.if-has_room.false) c.length_to.ensures) _ (sym c.table_refusal.ensures ∙ c.in-None.is)
