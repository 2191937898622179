use mathlib.Core.Path.{sym, ◌∙◌}
use native.Mathlib.Nat.{sub-zero}
use borrow.Author.Rules.{rules}
use Rattle.multibody.proofs.CountLaws.{joint-words, joint-numbers}
use Rattle.model.specs.Planar.{plane}
use Rattle.model.proofs.PlaceSearch.{none_left, this-list, next-list}
use Rattle.model.proofs.refusal_place.all_joints_place.Goals as goal

pub loop-j-init : goal.loop-j-init
loop-j-init c = (search rules, rw (sub-zero, c.joint_count-n.ensures))

pub joint_place-p-requires : goal.joint_place-p-requires
joint_place-p-requires c =
    let h = rw c.joint_count-n.ensures at c.loop-j-test.true in
    record { words_width_in_bounds = joint-words plane _ _ _ h; numbers_width_in_bounds = joint-numbers plane _ _ _ h }

pub returns-then-is_some : goal.returns-then-is_some
returns-then-is_some c =
    this-list _ _ _ _ c.loop-j.invariant c.loop-j-test.true c.joint_place-p.ensures (sym c.is_some.ensures ∙ c.if-is_some.true)

pub loop-j-preserved : goal.loop-j-preserved
loop-j-preserved c =
    next-list _ _ _ _ c.loop-j.invariant c.loop-j-test.true c.joint_place-p.ensures (sym c.is_some.ensures ∙ c.if-is_some.false)

pub returns : goal.returns
returns c = none_left _ _ _ _ c.loop-j.invariant c.loop-j-test.false
