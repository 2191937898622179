use mathlib.Core.Path.{◌∙◌}
use Rattle.rows.proofs.RowIdsCount.{at-most-six}
use Rattle.multibody.specs.JointRows.{joint_ids, row_count}
use Rattle.model.proofs.plane.PlaneKind.row_count.Goals as goal

pub returns : goal.returns
unfolding joint_ids row_count
returns c = record { value = λ words j e. c.row_count.ensures ∙ rw e; few = rw c.row_count.ensures (at-most-six c.args.masks) }
