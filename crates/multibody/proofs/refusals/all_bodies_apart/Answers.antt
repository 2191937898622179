use mathlib.Core.Bool.{not}
use mathlib.Core.Path.{sym, ap, ◌∙◌}
use borrow.Author.Tests.{eq-eqb, ne_eqb}
use Rattle.multibody.specs.Refusals.{bodies_apart}
use Rattle.multibody.proofs.RuleLaws.{still-undecided, one-fails, all_pass}
use Rattle.multibody.proofs.refusals.all_bodies_apart.Goals as goal

pub returns-then-body1_at-body2_at : goal.returns-then-body1_at-body2_at
unfolding bodies_apart
returns-then-body1_at-body2_at g c =
    one-fails _ _ _ c.loop-j.invariant c.loop-j-test.true (ap not (eq-eqb _ _ (sym c.body1_at.ensures ∙ c.if-body1_at-body2_at.true ∙ c.body2_at.ensures)))

pub loop-j-preserved : goal.loop-j-preserved
unfolding bodies_apart
loop-j-preserved g c =
    still-undecided _ _ _ c.loop-j.invariant c.loop-j-test.true (ap not (ne_eqb _ _ (λ q. c.if-body1_at-body2_at.false (c.body1_at.ensures ∙ q ∙ sym c.body2_at.ensures))))

pub returns : goal.returns
returns g c = all_pass _ _ _ c.loop-j.invariant c.loop-j-test.false
