-- The rule that a line cites is the one that its row was made by.
use Rattle.std.specs.Prelude.{◌≡◌, ◌++◌, map}
use Rattle.rows.specs.RowIds.{group_one, group_two}
use Rattle.rows.specs.Finalize.{finalize_of}
use Rattle.rows.specs.Update.{update_of}
use Rattle.rows.specs.declared.joint_velocity_constraint.JointConstraint.{JointConstraint}
use Rattle.rows.specs.declared.joint_velocity_constraint.RowContext.{RowContext}
use Rattle.rows.specs.declared.joint_velocity_constraint.WritebackId.{WritebackId}
use Rattle.model.specs.Store.{axis_of}
use Rattle.study_text.specs.Definitions.{definition_of}
use Rattle.study_text.specs.Rules.{rule_of}

-- the row of an id by the definition that its line names
unfoldable pub made_by : RowContext → WritebackId → JointConstraint
made_by cx id = (definition_of (rule_of id cx.joint.masks.coupled_axes)).row cx (axis_of id)

-- Whatever rows are made from: `update` makes each by its rule's definition, and then reduces the rows of a group by the locks before them (`finalize_of`), so that an impulse
-- multiplies the reduced row. Where impulses start is the builder's (`warmed_all`).
abbrev pub Cited : Type 0
Cited = (cx : RowContext) → update_of cx ≡ finalize_of (map (made_by cx) (group_one 2 1 cx.joint.masks)) ++ finalize_of (map (made_by cx) (group_two 2 1 cx.joint.masks))
