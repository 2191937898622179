-- `put_three_rows` meets its contract, by what its three calls ensure.
use Rattle.spatial_capi.specs.Stored.{put_three_rows}
use Rattle.spatial_capi.proofs.stored.put_three_rows.Goals as goal

pub returns : goal.returns
unfolding put_three_rows
returns c = cc
