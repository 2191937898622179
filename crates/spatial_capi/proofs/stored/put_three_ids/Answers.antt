-- `put_three_ids` meets its contract, by what its three calls ensure.
use Rattle.spatial_capi.specs.Stored.{put_three_ids}
use Rattle.spatial_capi.proofs.stored.put_three_ids.Goals as goal

pub returns : goal.returns
unfolding put_three_ids
returns c = cc
