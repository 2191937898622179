-- `unlocked` meets its contract: at all masks below 8 it is computed.
use Rattle.spatial_rows.proofs.RowSlotsLaws.{unlocked-is, unlocked-lt}
use Rattle.spatial_rows.proofs.row_ids.unlocked.Goals as goal

pub returns : goal.returns
returns c = record { value = unlocked-is c.args.mask c.args.locked; upper_bound = unlocked-lt c.args.mask c.args.locked }
