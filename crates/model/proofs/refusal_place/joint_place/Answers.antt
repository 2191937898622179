-- `joint_place` meets its contract, by the rule's number.
use borrow.Author.Tests.{eq-eqb, ne_eqb}
use Rattle.model.specs.RefusalPlace.{broken, joint_tests}
use Rattle.model.proofs.refusal_place.joint_place.Goals as goal

pub returns-then-k-eq3 : goal.returns-then-k-eq3
unfolding joint_tests
returns-then-k-eq3 c = rw (eq-eqb _ _ c.if-k-eq3.true) c.mask_place.ensures

pub returns-then-k-eq4 : goal.returns-then-k-eq4
unfolding joint_tests
returns-then-k-eq4 c =
    rw (ne_eqb _ _ c.if-k-eq3.false, eq-eqb _ _ c.if-k-eq4.true) c.present_place.ensures

pub returns-then-k-eq5 : goal.returns-then-k-eq5
unfolding joint_tests
returns-then-k-eq5 c =
    rw (ne_eqb _ _ c.if-k-eq3.false, ne_eqb _ _ c.if-k-eq4.false, eq-eqb _ _ c.if-k-eq5.true) c.apart_place.ensures

pub returns-then-k-eq6 : goal.returns-then-k-eq6
unfolding joint_tests
returns-then-k-eq6 c =
    rw (ne_eqb _ _ c.if-k-eq3.false, ne_eqb _ _ c.if-k-eq4.false, ne_eqb _ _ c.if-k-eq5.false, eq-eqb _ _ c.if-k-eq6.true) c.number_place.ensures

pub returns-then-k-eq12 : goal.returns-then-k-eq12
unfolding joint_tests
returns-then-k-eq12 c =
    rw (ne_eqb _ _ c.if-k-eq3.false, ne_eqb _ _ c.if-k-eq4.false, ne_eqb _ _ c.if-k-eq5.false, ne_eqb _ _ c.if-k-eq6.false, eq-eqb _ _ c.if-k-eq12.true) c.angle_place.ensures

pub returns : goal.returns
unfolding joint_tests broken
returns c =
    rw (ne_eqb _ _ c.if-k-eq3.false, ne_eqb _ _ c.if-k-eq4.false, ne_eqb _ _ c.if-k-eq5.false, ne_eqb _ _ c.if-k-eq6.false, ne_eqb _ _ c.if-k-eq12.false)
