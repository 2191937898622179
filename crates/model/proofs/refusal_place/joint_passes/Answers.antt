-- `joint_passes` meets its contract: its letters are rule 6's list of a joint, but for the last number.
use mathlib.Core.Path.{◌∙◌}
use borrow.Author.Tests.{eq-eqb, ne_eqb}
use borrow.Author.Rules.{rules}
use Rattle.model.proofs.PlaceSearch.{joint-letters, joint-last}
use Rattle.model.proofs.refusal_place.joint_passes.Goals as goal

pub returns-then-c-lt-CENTER_IM : goal.returns-then-c-lt-CENTER_IM
returns-then-c-lt-CENTER_IM c =
    let a = c.args in
    c.letter_passes.ensures ∙ joint-letters a.choice a.c a.x c.if-c-lt-CENTER_IM.true

pub returns-then-choice-eq0 : goal.returns-then-choice-eq0
returns-then-choice-eq0 c =
    let a = c.args in
    let e = joint-last a.choice a.c a.x c.if-c-lt-CENTER_IM.false (search rules) in
    c.is_finite.ensures ∙ rw (eq-eqb _ _ c.if-choice-eq0.true) at e

pub returns : goal.returns
returns c =
    let a = c.args in
    let e = joint-last a.choice a.c a.x c.if-c-lt-CENTER_IM.false (search rules) in
    rw (ne_eqb _ _ c.if-choice-eq0.false) at e
