-- `finalize_lent` meets its contract: `finalize_constraints` changes one part of the rows, and then the part after it.
use Rattle.rows.specs.Groups.{group_of}
use Rattle.rows.proofs.GroupLaws.{two_groups}
use Rattle.rows.proofs.joint_constraint_helper.finalize_lent.Goals as goal

pub returns : goal.returns
returns g c =
    let t = g.R.Row in
    two_groups (group_of _ _ t.im_sum t.head t.is_lock t.inv_dot t.pair) _ _ _ _ _ c.requires.0 c.requires.1 c.finalize_constraints.ensures c.finalize_constraints-2.ensures
