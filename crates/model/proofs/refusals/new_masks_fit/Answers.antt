-- `new_masks_fit` meets its contract: each test is tried where those before it hold.
use borrow.Author.Tests.{lt-ltb, le-ltb}
use Rattle.model.specs.Refusals.{new_masks_fit}
use Rattle.model.proofs.refusals.new_masks_fit.Goals as goal

pub returns-then-masks-gt-ALL_AXES : goal.returns-then-masks-gt-ALL_AXES
unfolding new_masks_fit
returns-then-masks-gt-ALL_AXES c = simp (lt-ltb _ _ c.if-masks-gt-ALL_AXES.true)

pub returns-then-masks-gt-ALL_AXES-2 : goal.returns-then-masks-gt-ALL_AXES-2
unfolding new_masks_fit
returns-then-masks-gt-ALL_AXES-2 c = simp (le-ltb _ _ c.if-masks-gt-ALL_AXES.false, lt-ltb _ _ c.if-masks-gt-ALL_AXES-2.true)

pub returns-then-masks-gt-ALL_AXES-3 : goal.returns-then-masks-gt-ALL_AXES-3
unfolding new_masks_fit
returns-then-masks-gt-ALL_AXES-3 c =
    simp (le-ltb _ _ c.if-masks-gt-ALL_AXES.false, le-ltb _ _ c.if-masks-gt-ALL_AXES-2.false, lt-ltb _ _ c.if-masks-gt-ALL_AXES-3.true)

pub returns-then-masks-gt-ALL_AXES-4 : goal.returns-then-masks-gt-ALL_AXES-4
unfolding new_masks_fit
returns-then-masks-gt-ALL_AXES-4 c =
    simp (le-ltb _ _ c.if-masks-gt-ALL_AXES.false, le-ltb _ _ c.if-masks-gt-ALL_AXES-2.false, le-ltb _ _ c.if-masks-gt-ALL_AXES-3.false, lt-ltb _ _ c.if-masks-gt-ALL_AXES-4.true)

pub returns : goal.returns
unfolding new_masks_fit
returns c =
    simp (le-ltb _ _ c.if-masks-gt-ALL_AXES.false, le-ltb _ _ c.if-masks-gt-ALL_AXES-2.false, le-ltb _ _ c.if-masks-gt-ALL_AXES-3.false, le-ltb _ _ c.if-masks-gt-ALL_AXES-4.false)
