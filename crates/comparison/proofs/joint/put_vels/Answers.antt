-- `put_vels` meets its contract, by what its two calls ensure.
use Rattle.comparison.proofs.joint.put_vels.Goals as goal

pub returns : goal.returns
returns c = cc
