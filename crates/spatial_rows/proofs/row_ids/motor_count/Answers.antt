-- `motor_count` meets its contract: the motors' slots are the three lowest.
use mathlib.Core.Path.{◌∙◌}
use Rattle.spatial_rows.proofs.RowSlotsLaws.{motors-are}
use Rattle.spatial_rows.proofs.row_ids.motor_count.Goals as goal

pub returns : goal.returns
returns c = c.motors_of.ensures ∙ motors-are _ c.row_slots.ensures
