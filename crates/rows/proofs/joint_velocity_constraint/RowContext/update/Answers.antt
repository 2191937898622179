-- `update` meets its contract, by those of its parts: the counts of the ids fit in six places, and `updated` puts the two groups together.
use Rattle.std.proofs.Common.{lit<}
use mathlib.Core.Path.{◌∙◌}
use Rattle.rows.proofs.UpdateRows.{counts, updated}
use Rattle.rows.proofs.joint_velocity_constraint.RowContext.update.Goals as goal

pub made-requires : goal.made-requires
made-requires c = (counts c.args.self.joint.masks c.row_ids-ids.ensures).1

pub finalize_groups-requires : goal.finalize_groups-requires
finalize_groups-requires c = (lit< tt, counts c.args.self.joint.masks c.row_ids-ids.ensures)

pub returns : goal.returns
returns c =
    updated c.args.self c.row_ids-ids.ensures (c.finalize_groups.ensures ∙ rw c.made.ensures)
