use Rattle.std.proofs.Common.{sym, refl, ◌∙◌}
use Rattle.frames.proofs.FrameLaws.{no-substep, stops, next-substep, first-substep, still-few}
use Rattle.frames.proofs.frame.all_substeps.Goals as goal

pub returns-in_err-p : goal.returns-in_err-p
returns-in_err-p c =
    rw c.from_residual.ensures (stops _ _ _ _ _ (first-substep _ _ _ _ refl) c.in_err-p.ensures.0 c.in_err-p.ensures.1)

pub one_substep-requires-in-loop-i : goal.one_substep-requires-in-loop-i
one_substep-requires-in-loop-i c =
    still-few _ _ (c.loop-i.invariant.0 ∙ c.one_substep.auto.bodies) c.requires.bodies_bound

pub returns-in_err-p-2 : goal.returns-in_err-p-2
returns-in_err-p-2 c =
    rw c.from_residual-in_err-p-2.ensures
    (stops _ _ _ _ _ (sym (next-substep _ _ _ _ _ c.loop-i-test.true refl refl) ∙ c.loop-i.invariant.1 ∙ first-substep _ _ _ _ c.in_ok-p.ensures.0) c.in_err-p-2.ensures.0 c.in_err-p-2.ensures.1)

pub loop-i-preserved : goal.loop-i-preserved
loop-i-preserved c =
    let v = c.loop-i.invariant in
    (c.one_substep-in-loop-i.auto.bodies ∙ v.0, sym (next-substep _ _ _ _ _ c.loop-i-test.true refl c.in_ok-p-2.ensures.0) ∙ v.1, c.in_ok-p-2.ensures.1)

pub returns : goal.returns
returns c =
    let v = c.loop-i.invariant in
    (sym (no-substep _ _ _ _ _ c.loop-i-test.false) ∙ v.1 ∙ first-substep _ _ _ _ c.in_ok-p.ensures.0, v.2)
