-- `apart_place` meets its contract: the two bodies are one, or they differ.
use mathlib.Core.Path.{sym, ◌∙◌}
use borrow.Author.Tests.{eq-eqb, ne_eqb}
use Rattle.multibody.specs.Refusals.{bodies_apart}
use Rattle.model.specs.RefusalPlace.{broken}
use Rattle.model.proofs.refusal_place.apart_place.Goals as goal

pub returns-then-body1_at-body2_at : goal.returns-then-body1_at-body2_at
unfolding broken bodies_apart
returns-then-body1_at-body2_at c =
    rw (eq-eqb _ _ (sym c.body1_at.ensures ∙ c.if-body1_at-body2_at.true ∙ c.body2_at.ensures))

pub returns : goal.returns
unfolding broken bodies_apart
returns c =
    rw (ne_eqb _ _ (λ q. c.if-body1_at-body2_at.false (c.body1_at.ensures ∙ q ∙ sym c.body2_at.ensures)))
