-- `put_six` meets its contract, by what its six calls ensure.
use Rattle.comparison.proofs.joint.put_six.Goals as goal

pub returns : goal.returns
returns c = cc
