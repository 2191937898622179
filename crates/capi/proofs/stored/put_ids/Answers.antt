-- `put_ids` meets its contract, by what its six calls ensure.
use Rattle.capi.specs.Stored.{put_id, put_ids}
use Rattle.capi.proofs.stored.put_ids.Goals as goal

pub returns : goal.returns
unfolding put_id put_ids
returns c = cc
