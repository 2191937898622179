use Rattle.study_reader.specs.Study.{open_joint}
use Rattle.study_reader.proofs.changes.open_joint.Goals as goal

pub returns : goal.returns
unfolding open_joint
returns c =
    let pw2 = c.before.before.before.before.before in
    let pw = pw2.before.before.before.before.before.before.before in
    let dj = pw.before.before.before.before.before in
    let pn = dj in
    rw (c.opened.ensures, pw2.put_word-2.ensures.0, pw2.put_word-2.ensures.1, pw.put_word.ensures.0, pw.put_word.ensures.1, dj.default_joint.ensures, pn.put_name.ensures)
