-- `joints_refusal` meets its contract: each rule is tried where those before it hold.
use mathlib.Core.Bool.{not}
use mathlib.Core.Path.{ap}
use Rattle.multibody.specs.Rules.{refusal}
use Rattle.multibody.proofs.RuleLaws.{holds, fails}
use Rattle.spatial_model.proofs.refusals.joints_refusal.Goals as goal

pub returns-then-not-all_masks_fit : goal.returns-then-not-all_masks_fit
unfolding refusal
returns-then-not-all_masks_fit c = rw (fails c.all_masks_fit.ensures (ap not c.if-not-all_masks_fit.true))

pub returns-then-not-all_linear_alone : goal.returns-then-not-all_linear_alone
unfolding refusal
returns-then-not-all_linear_alone c =
    rw (holds c.all_masks_fit.ensures (ap not c.if-not-all_masks_fit.false), fails c.all_linear_alone.ensures (ap not c.if-not-all_linear_alone.true))

pub returns-then-not-all_bodies_present : goal.returns-then-not-all_bodies_present
unfolding refusal
returns-then-not-all_bodies_present c =
    rw (holds c.all_masks_fit.ensures (ap not c.if-not-all_masks_fit.false), holds c.all_linear_alone.ensures (ap not c.if-not-all_linear_alone.false), fails c.all_bodies_present.ensures (ap not c.if-not-all_bodies_present.true))

pub returns-then-not-all_bodies_apart : goal.returns-then-not-all_bodies_apart
unfolding refusal
returns-then-not-all_bodies_apart c =
    rw (holds c.all_masks_fit.ensures (ap not c.if-not-all_masks_fit.false), holds c.all_linear_alone.ensures (ap not c.if-not-all_linear_alone.false), holds c.all_bodies_present.ensures (ap not c.if-not-all_bodies_present.false), fails c.all_bodies_apart.ensures (ap not c.if-not-all_bodies_apart.true))

pub returns : goal.returns
unfolding refusal
returns c =
    rw (holds c.all_masks_fit.ensures (ap not c.if-not-all_masks_fit.false), holds c.all_linear_alone.ensures (ap not c.if-not-all_linear_alone.false), holds c.all_bodies_present.ensures (ap not c.if-not-all_bodies_present.false), holds c.all_bodies_apart.ensures (ap not c.if-not-all_bodies_apart.false))
