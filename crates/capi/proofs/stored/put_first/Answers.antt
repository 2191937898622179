-- `put_first` meets its contract, by what its six calls ensure.
use Rattle.capi.specs.Stored.{put_if, put_first}
use Rattle.capi.proofs.stored.put_first.Goals as goal

pub returns : goal.returns
unfolding put_if put_first
returns c = cc
