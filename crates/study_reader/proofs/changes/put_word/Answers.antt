use native.Mathlib.Omega.{arith}
use Rattle.study_reader.specs.Study.{origin_with, word_with}
use Rattle.study_reader.proofs.ReadLaws.{words-base-small}
use Rattle.study_reader.proofs.changes.put_word.Goals as goal

pub overflow_add-o : goal.overflow_add-o
overflow_add-o c = omega (arith, c.words_base.ensures, words-base-small c.args.item)

pub overflow_add-o-2 : goal.overflow_add-o-2
overflow_add-o-2 c =
    let wb = c.before.before.before.before.before in
    let entry = wb in
    omega (arith, wb.words_base.ensures, words-base-small entry.args.item)

pub returns : goal.returns
unfolding origin_with word_with
returns c =
    let sw2 = c.before.before in
    let at-kept = sw2.before in
    let sw = at-kept.before.before.before.before in
    let wb = sw in
    (rw (sw2.set_word-2.ensures, at-kept.kept.ensures, wb.words_base.ensures), rw (sw.set_word.ensures, wb.words_base.ensures))
