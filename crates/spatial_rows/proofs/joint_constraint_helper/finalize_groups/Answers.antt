-- `finalize_groups` meets its contract: nine rows fit in memory.
use Rattle.std.proofs.Common.{lit<}
use Rattle.spatial_rows.proofs.joint_constraint_helper.finalize_groups.Goals as goal

pub finalize_groups-requires : goal.finalize_groups-requires
finalize_groups-requires c = (lit< tt, c.requires)
