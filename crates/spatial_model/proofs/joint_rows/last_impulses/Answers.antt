-- `last_impulses` meets its contract: a build that reads no rows makes the same rows whatever it starts from.
use mathlib.Core.Path.{sym, ap, ◌∙◌}
use mathlib.Core.Bool.{true≢false}
use Rattle.spatial_rows.specs.Builder.{builder_update_of}
use Rattle.multibody.proofs.JointRowsLaws.{last-impulses}
use Rattle.spatial_model.proofs.SpatialLaws.{spatial-laws}
use Rattle.spatial_model.proofs.joint_rows.last_impulses.Goals as goal

pub returns-then-reads_rows : goal.returns-then-reads_rows
returns-then-reads_rows c params body1 body2 joint =
    ap (λ t. builder_update_of params c.args.substep_id c.args.warmstart body1 body2 joint t) c.impulses_at.ensures

pub returns : goal.returns
returns c params body1 body2 joint =
    last-impulses spatial-laws params body1 body2 joint c.args.warmstart c.args.substep_id _ _
    (λ t. absurd (true≢false (sym t ∙ sym c.reads_rows.ensures ∙ c.if-reads_rows.false)))
