-- `six_rows` meets its contract, by what its six calls ensure.
use Rattle.capi.proofs.reactions.six_rows.Goals as goal

pub returns : goal.returns
returns c = cc
