-- `katydidzinc_residual` is put together from what its callees promise.
use Rattle.capi.proofs.reactions.katydidzinc_residual.Goals as goal

pub returns : goal.returns
returns c = cc
