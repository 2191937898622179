use Rattle.study_reader.specs.Study.{name_with}
use Rattle.study_reader.proofs.changes.put_name.Goals as goal

pub returns : goal.returns
unfolding name_with
returns c =
    let sw2 = c.before.before in
    let kept2 = sw2.before in
    let sw = kept2.before.before.before.before in
    let at-kept = sw in
    rw (sw2.set_word-2.ensures, sw.set_word.ensures, kept2.kept-2.ensures, at-kept.kept.ensures)
