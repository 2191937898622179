-- `put_first` meets its contract, by what its three calls ensure.
use Rattle.spatial_capi.specs.Stored.{put_first}
use Rattle.spatial_capi.proofs.stored.put_first.Goals as goal

pub returns : goal.returns
unfolding put_first
returns c =
    rw (c.put_three_rows-3.ensures, c.put_three_rows-2.ensures, c.put_three_rows.ensures)
