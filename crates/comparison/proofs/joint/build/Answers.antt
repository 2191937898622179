-- `build` meets its contract, by what its calls ensure.
use Rattle.comparison.specs.JointExports.{roomy_rows, roomy_ids}
use Rattle.comparison.proofs.joint.build.Goals as goal

pub returns : goal.returns
unfolding roomy_rows roomy_ids
returns c = record { value = cc; rows_after = cc; ids_after = cc }
