use borrow.Author.Tests.{lt-ltb, le-ltb}
use native.Mathlib.Omega.{arith}
use Rattle.study_reader.specs.Study.{center_with}
use Rattle.study_reader.proofs.ReadLaws.{words-base-small}
use Rattle.study_reader.proofs.changes.put_center.Goals as goal

pub overflow_add-words_base : goal.overflow_add-words_base
overflow_add-words_base c = omega (arith, c.words_base.ensures, words-base-small c.args.item)

pub returns-then-center-lt2 : goal.returns-then-center-lt2
unfolding center_with
returns-then-center-lt2 c =
    let sw = c.before.before in
    let wb = sw.before in
    let b1 = wb in
    rw (lt-ltb _ _ b1.if-center-lt2.true, sw.set_word.ensures, wb.words_base.ensures)

pub returns-else-center-lt2 : goal.returns-else-center-lt2
unfolding center_with
returns-else-center-lt2 c = rw (le-ltb _ _ c.if-center-lt2.false)
