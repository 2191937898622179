-- `joint_from` meets its contract, by what its call ensures.
use mathlib.Core.Path.{◌∙◌}
use borrow.Author.Rules.{rules}
use Rattle.model.proofs.SingleRecordsLaws.{joint-read}
use Rattle.comparison.specs.JointExports.{joint_from}
use Rattle.comparison.proofs.joint.joint_from.Goals as goal

pub returns : goal.returns
unfolding joint_from
returns c =
    let e = c.read_joint.ensures ∙ joint-read _ _ _ (search rules) (search rules) in
    cc
