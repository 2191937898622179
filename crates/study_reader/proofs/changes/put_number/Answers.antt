use Rattle.study_reader.proofs.changes.put_number.Goals as goal

pub returns : goal.returns
returns c =
    let sw = c.before.before in
    let at-kept = sw.before in
    let at_set = at-kept in
    (at_set.set.ensures, rw (sw.set_word.ensures, at-kept.kept.ensures))
