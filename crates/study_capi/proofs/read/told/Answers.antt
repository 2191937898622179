-- `told` is put together from what its callees promise.
use Rattle.study_capi.specs.StudyExports.{told}
use Rattle.study_capi.proofs.read.told.Goals as goal

pub returns : goal.returns
unfolding told
returns c = cc
