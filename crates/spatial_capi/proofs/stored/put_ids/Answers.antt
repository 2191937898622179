-- `put_ids` meets its contract, by what its three calls ensure.
use Rattle.spatial_capi.specs.Stored.{put_ids}
use Rattle.spatial_capi.proofs.stored.put_ids.Goals as goal

pub returns : goal.returns
unfolding put_ids
returns c =
    rw (c.put_three_ids-3.ensures, c.put_three_ids-2.ensures, c.put_three_ids.ensures)
