use mathlib.Core.Path.{sym, ◌∙◌}
use native.Mathlib.Nat.{sub-zero}
use borrow.Author.Rules.{rules}
use Rattle.multibody.proofs.CountLaws.{body-there}
use Rattle.model.specs.Planar.{plane}
use Rattle.model.proofs.PlaceSearch.{none_left, this-list, next-list}
use Rattle.model.proofs.refusal_place.bodies_place.Goals as goal

pub loop-i-init : goal.loop-i-init
loop-i-init c = (search rules, rw (sub-zero, c.body_count-n.ensures))

pub body_place-p-requires : goal.body_place-p-requires
body_place-p-requires c = body-there plane _ _ (rw c.body_count-n.ensures at c.loop-i-test.true)

pub returns-then-is_some : goal.returns-then-is_some
returns-then-is_some c =
    this-list _ _ _ _ c.loop-i.invariant c.loop-i-test.true c.body_place-p.ensures (sym c.is_some.ensures ∙ c.if-is_some.true)

pub loop-i-preserved : goal.loop-i-preserved
loop-i-preserved c =
    next-list _ _ _ _ c.loop-i.invariant c.loop-i-test.true c.body_place-p.ensures (sym c.is_some.ensures ∙ c.if-is_some.false)

pub returns : goal.returns
returns c = none_left _ _ _ _ c.loop-i.invariant c.loop-i-test.false
