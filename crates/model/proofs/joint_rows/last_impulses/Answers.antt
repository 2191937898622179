-- `last_impulses` meets its contract: a build that reads no rows makes the same rows whatever it starts from.
use mathlib.Core.Path.{sym, ap, ◌∙◌}
use mathlib.Core.Bool.{true≢false}
use Rattle.rows.specs.Builder.{builder_update_of}
use Rattle.multibody.proofs.JointRowsLaws.{last-impulses}
use Rattle.model.proofs.PlanarLaws.{planar-laws}
use Rattle.model.proofs.joint_rows.last_impulses.Goals as goal

pub returns-then-reads_rows : goal.returns-then-reads_rows
returns-then-reads_rows c params body1 body2 joint =
    let a = c.args in
    ap (λ t. builder_update_of params a.substep_id a.warmstart body1 body2 joint t) c.impulses_at.ensures

pub returns : goal.returns
returns c params body1 body2 joint =
    let a = c.args in
    last-impulses planar-laws params body1 body2 joint a.warmstart a.substep_id _ _
    (λ t. absurd (true≢false (sym t ∙ sym c.reads_rows.ensures ∙ c.if-reads_rows.false)))
