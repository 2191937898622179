use borrow.Author.Tests.{eq-eqb, ne_eqb}
use native.Mathlib.Omega.{arith}
use Rattle.study_reader.specs.Draft.{item_base}
use Rattle.study_reader.proofs.ReadLaws.{body-base-small, joint-base-small}
use Rattle.study_reader.proofs.draft.item_base.Goals as goal

pub returns-then-st-eq-BODY_ITEM : goal.returns-then-st-eq-BODY_ITEM
unfolding item_base
returns-then-st-eq-BODY_ITEM c =
    let b1 = c in
    (rw (eq-eqb _ _ b1.if-st-eq-BODY_ITEM.true) c.body_base.ensures, rw c.body_base.ensures (body-base-small _))

pub returns-then-st-eq-JOINT_ITEM : goal.returns-then-st-eq-JOINT_ITEM
unfolding item_base
returns-then-st-eq-JOINT_ITEM c =
    let b2 = c.before in
    let b1 = b2 in
    (rw (ne_eqb _ _ b1.if-st-eq-BODY_ITEM.false, eq-eqb _ _ b2.if-st-eq-JOINT_ITEM.true) c.joint_base.ensures, rw c.joint_base.ensures (joint-base-small _))

pub returns : goal.returns
unfolding item_base
returns c = (rw (ne_eqb _ _ c.if-st-eq-BODY_ITEM.false, ne_eqb _ _ c.if-st-eq-JOINT_ITEM.false), omega arith)
