use borrow.Author.Tests.{eq-eqb, ne_eqb}
use Rattle.study_reader.specs.Items.{given_by}
use Rattle.study_reader.proofs.items.given_by.Goals as goal

pub returns-then-keyword-eq-MASS : goal.returns-then-keyword-eq-MASS
unfolding given_by
returns-then-keyword-eq-MASS c =
    let inv2 = c.before in
    let inv = inv2.before in
    let b1 = inv in
    rw (c.given2.ensures, inv.inv.ensures, inv2.inv-then-keyword-eq-MASS.ensures, eq-eqb _ _ b1.if-keyword-eq-MASS.true)

pub returns-then-keyword-eq-INVERSE_MASS : goal.returns-then-keyword-eq-INVERSE_MASS
unfolding given_by
returns-then-keyword-eq-INVERSE_MASS c = rw (c.given2-then-keyword-eq-INVERSE_MASS.ensures, ne_eqb _ _ c.if-keyword-eq-MASS.false, eq-eqb _ _ c.if-keyword-eq-INVERSE_MASS.true)

pub returns-then-keyword-eq-INERTIA : goal.returns-then-keyword-eq-INERTIA
unfolding given_by
returns-then-keyword-eq-INERTIA c =
    let inv3 = c.before in
    let b3 = inv3.before in
    let b2 = b3.before in
    let b1 = b2 in
    rw (c.given1.ensures, inv3.inv-then-keyword-eq-INERTIA.ensures, ne_eqb _ _ b1.if-keyword-eq-MASS.false, ne_eqb _ _ b2.if-keyword-eq-INVERSE_MASS.false, eq-eqb _ _ b3.if-keyword-eq-INERTIA.true)

pub returns-then-keyword-eq-ANGLE : goal.returns-then-keyword-eq-ANGLE
unfolding given_by
returns-then-keyword-eq-ANGLE c =
    let b4 = c.before in
    let b3 = b4.before in
    let b2 = b3.before in
    let b1 = b2 in
    rw (c.rotated.ensures, ne_eqb _ _ b1.if-keyword-eq-MASS.false, ne_eqb _ _ b2.if-keyword-eq-INVERSE_MASS.false, ne_eqb _ _ b3.if-keyword-eq-INERTIA.false, eq-eqb _ _ b4.if-keyword-eq-ANGLE.true)

pub returns-then-keyword-eq-FRAME1_ANGLE : goal.returns-then-keyword-eq-FRAME1_ANGLE
unfolding given_by
returns-then-keyword-eq-FRAME1_ANGLE c =
    let b5 = c.before in
    let b4 = b5.before in
    let b3 = b4.before in
    let b2 = b3.before in
    let b1 = b2 in
    rw (c.rotated-then-keyword-eq-FRAME1_ANGLE.ensures, ne_eqb _ _ b1.if-keyword-eq-MASS.false, ne_eqb _ _ b2.if-keyword-eq-INVERSE_MASS.false, ne_eqb _ _ b3.if-keyword-eq-INERTIA.false, ne_eqb _ _ b4.if-keyword-eq-ANGLE.false, eq-eqb _ _ b5.if-keyword-eq-FRAME1_ANGLE.true)

pub returns-then-keyword-eq-FRAME2_ANGLE : goal.returns-then-keyword-eq-FRAME2_ANGLE
unfolding given_by
returns-then-keyword-eq-FRAME2_ANGLE c =
    let b6 = c.before in
    let b5 = b6.before in
    let b4 = b5.before in
    let b3 = b4.before in
    let b2 = b3.before in
    let b1 = b2 in
    rw (c.rotated-then-keyword-eq-FRAME2_ANGLE.ensures, ne_eqb _ _ b1.if-keyword-eq-MASS.false, ne_eqb _ _ b2.if-keyword-eq-INVERSE_MASS.false, ne_eqb _ _ b3.if-keyword-eq-INERTIA.false, ne_eqb _ _ b4.if-keyword-eq-ANGLE.false, ne_eqb _ _ b5.if-keyword-eq-FRAME1_ANGLE.false, eq-eqb _ _ b6.if-keyword-eq-FRAME2_ANGLE.true)

pub returns : goal.returns
unfolding given_by
returns c =
    let b6 = c.before in
    let b5 = b6.before in
    let b4 = b5.before in
    let b3 = b4.before in
    let b2 = b3.before in
    let b1 = b2 in
    rw (c.given1-2.ensures, ne_eqb _ _ b1.if-keyword-eq-MASS.false, ne_eqb _ _ b2.if-keyword-eq-INVERSE_MASS.false, ne_eqb _ _ b3.if-keyword-eq-INERTIA.false, ne_eqb _ _ b4.if-keyword-eq-ANGLE.false, ne_eqb _ _ b5.if-keyword-eq-FRAME1_ANGLE.false, ne_eqb _ _ b6.if-keyword-eq-FRAME2_ANGLE.false)
