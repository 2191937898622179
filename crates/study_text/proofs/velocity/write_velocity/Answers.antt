-- `write_velocity` meets its contract: a first run tells the length.
use mathlib.Core.Path.{sym, ◌∙◌}
use Rattle.texts.proofs.SinkLaws.{wrote-there, wrote_nothing}
use Rattle.study_text.proofs.velocity.write_velocity.Goals as goal

pub returns-then-has_room : goal.returns-then-has_room
returns-then-has_room c = wrote-there c.put_velocity-len.ensures _ (sym c.has_room.ensures ∙ c.if-has_room.true) c.put_velocity.ensures

pub returns-else-has_room : goal.returns-else-has_room
returns-else-has_room c = wrote_nothing c.put_velocity-len.ensures _ (sym c.has_room.ensures ∙ c.if-has_room.false) c.length_to.ensures
