use Rattle.study_reader.specs.Study.{applied, open_body}
use Rattle.study_reader.proofs.changes.apply.Goals as goal

pub returns-in-Nothing : goal.returns-in-Nothing
unfolding applied open_body
returns-in-Nothing c = rw c.in-Nothing.is

pub returns-in-Wrong : goal.returns-in-Wrong
unfolding applied open_body
returns-in-Wrong c = rw (c.in-Wrong.is, c.faulty.ensures)

pub returns-in-Given : goal.returns-in-Given
unfolding applied open_body
returns-in-Given c =
    let pn = c.before.before.before.before.before.before in
    let change2 = pn in
    rw (change2.in-Given.is, pn.put_numbers.ensures.0, pn.put_numbers.ensures.1, pn.put_numbers.ensures.2)

pub returns-in-JointWord : goal.returns-in-JointWord
unfolding applied open_body
returns-in-JointWord c =
    let pw = c.before.before.before.before in
    let change3 = pw in
    rw (change3.in-JointWord.is, pw.put_word.ensures.0, pw.put_word.ensures.1)

pub returns-in-OpenSettings : goal.returns-in-OpenSettings
unfolding applied open_body
returns-in-OpenSettings c = rw (c.in-OpenSettings.is, c.opened.ensures)

pub returns-in-OpenBody : goal.returns-in-OpenBody
unfolding applied open_body
returns-in-OpenBody c =
    let ob = c.before.before.before.before in
    let change4 = ob in
    rw (change4.in-OpenBody.is, ob.open_body.ensures.0, ob.open_body.ensures.1, ob.open_body.ensures.2)

pub returns-in-OpenJoint : goal.returns-in-OpenJoint
unfolding applied open_body
returns-in-OpenJoint c =
    let oj = c.before.before.before.before.before.before.before.before in
    let change5 = oj in
    rw change5.in-OpenJoint.is oj.open_joint.ensures

pub returns-in-Call : goal.returns-in-Call
unfolding applied open_body
returns-in-Call c = rw (c.in-Call.is, c.called.ensures)
