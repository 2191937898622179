use borrow.Author.Tests.{eq-eqb, ne_eqb}
use Rattle.study_reader.specs.Study.{is_left_out}
use Rattle.study_reader.proofs.read.is_left_out.Goals as goal

pub returns-then-word_at-ne0 : goal.returns-then-word_at-ne0
unfolding is_left_out
returns-then-word_at-ne0 c = rw (← c.word_at.ensures, ne_eqb _ _ c.if-word_at-ne0.true)

pub returns-then-word_at-eq0 : goal.returns-then-word_at-eq0
unfolding is_left_out
returns-then-word_at-eq0 c =
    let wa2 = c.before in
    let b1 = wa2.before in
    let wa = b1 in
    rw (← wa.word_at.ensures, eq-eqb _ _ b1.if-word_at-ne0.false, ← wa2.word_at-2.ensures, eq-eqb _ _ c.if-word_at-eq0.true)

pub returns : goal.returns
unfolding is_left_out
returns c =
    let na2 = c.before in
    let na = na2.before in
    let b2 = na.before in
    let wa2 = b2.before in
    let b1 = wa2.before in
    let wa = b1 in
    rw (← wa.word_at.ensures, eq-eqb _ _ b1.if-word_at-ne0.false, ← wa2.word_at-2.ensures, ne_eqb _ _ b2.if-word_at-eq0.false, na.number_at.ensures, na2.number_at-2.ensures, c.from_bits.ensures)
