-- `read_pose` meets its contract.
use mathlib.Core.Path.{refl, ap, ◌∙◌}
use Rattle.study_reader.specs.Words.{next_word}
use Rattle.study_reader.specs.Calls.{read_rotation, pose_of}
use Rattle.study_reader.proofs.CallLaws.{at_second, x-not, y-not, pose-is}
use Rattle.study_reader.proofs.calls.read_pose.Goals as goal

pub returns-in-Some : goal.returns-in-Some
returns-in-Some c =
    let a = c.args in
    c.wrong.ensures ∙ x-not a.text.now a.l c.next_word-v.result (next_word a.text.now c.next_word-v.result.end) c.number_in-x.result c.number_fault.result c.number_in-x.ensures c.number_fault.ensures _ c.in-Some.is ∙ at_second a.text.now a.l (pose_of a.text.now a.l) c.next_word-v.result (next_word a.text.now c.next_word-v.result.end) c.next_word-v.ensures refl

pub returns-in-Some-number_fault : goal.returns-in-Some-number_fault
returns-in-Some-number_fault c =
    let a = c.args in
    c.wrong-in-Some-number_fault.ensures ∙ y-not a.text.now a.l c.next_word-v.result c.next_word-w.result c.number_in-x.result c.number_fault.result c.number_in-x.ensures c.number_fault.ensures c.number_in-y.result c.number_fault-2.result c.number_in-y.ensures c.number_fault-2.ensures c.in_default.is _ c.in-Some-number_fault.is ∙ at_second a.text.now a.l (pose_of a.text.now a.l) c.next_word-v.result c.next_word-w.result c.next_word-v.ensures c.next_word-w.ensures

pub returns : goal.returns
returns c =
    let a = c.args in
    c.read_rotation.ensures ∙ ap (read_rotation a.text.now) c.with_pose.ensures ∙ pose-is a.text.now a.l c.next_word-v.result c.next_word-w.result c.number_in-x.result c.number_fault.result c.number_in-x.ensures c.number_fault.ensures c.number_in-y.result c.number_fault-2.result c.number_in-y.ensures c.number_fault-2.ensures c.in_default.is c.in_default-number_fault.is _ _ c.value_of.ensures c.value_of-2.ensures ∙ at_second a.text.now a.l (pose_of a.text.now a.l) c.next_word-v.result c.next_word-w.result c.next_word-v.ensures c.next_word-w.ensures
