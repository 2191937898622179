-- `read_rotation` meets its contract.
use mathlib.Core.Path.{refl, sym, ◌∙◌}
use Rattle.study_reader.specs.Words.{next_word}
use Rattle.study_reader.specs.Calls.{rotation_of}
use Rattle.study_reader.proofs.CallLaws.{at_second, angle-not, angle-is, sine-not, sine-is}
use Rattle.study_reader.proofs.calls.read_rotation.Goals as goal

pub returns-in-Some : goal.returns-in-Some
returns-in-Some c =
    let a = c.args in
    c.wrong.ensures ∙ angle-not a.text.now a.l c.next_word-v.result (next_word a.text.now c.next_word-v.result.end) c.number_in-a.result c.number_fault.result c.number_in-a.ensures c.number_fault.ensures _ c.in-Some.is ∙ at_second a.text.now a.l (rotation_of a.text.now a.l) c.next_word-v.result (next_word a.text.now c.next_word-v.result.end) c.next_word-v.ensures refl

pub returns-then-is_empty : goal.returns-then-is_empty
returns-then-is_empty c =
    let a = c.args in
    c.with_rotation.ensures ∙ angle-is a.text.now a.l c.next_word-v.result c.next_word-w.result c.number_in-a.result c.number_fault.result c.number_in-a.ensures c.number_fault.ensures c.in_default.is (sym c.is_empty.ensures ∙ c.if-is_empty.true) _ c.value_of.ensures c.rotation_from_angle-rotation.result c.rotation_from_angle-rotation.ensures ∙ at_second a.text.now a.l (rotation_of a.text.now a.l) c.next_word-v.result c.next_word-w.result c.next_word-v.ensures c.next_word-w.ensures

pub returns-in-Some-number_fault : goal.returns-in-Some-number_fault
returns-in-Some-number_fault c =
    let a = c.args in
    c.wrong-in-Some-number_fault.ensures ∙ sine-not a.text.now a.l c.next_word-v.result c.next_word-w.result c.number_in-a.result c.number_fault.result c.number_in-a.ensures c.number_fault.ensures c.number_in-b.result c.number_fault-2.result c.number_in-b.ensures c.number_fault-2.ensures c.in_default.is (sym c.is_empty.ensures ∙ c.if-is_empty.false) _ c.in-Some-number_fault.is ∙ at_second a.text.now a.l (rotation_of a.text.now a.l) c.next_word-v.result c.next_word-w.result c.next_word-v.ensures c.next_word-w.ensures

pub returns : goal.returns
returns c =
    let a = c.args in
    c.with_rotation-2.ensures ∙ sine-is a.text.now a.l c.next_word-v.result c.next_word-w.result c.number_in-a.result c.number_fault.result c.number_in-a.ensures c.number_fault.ensures c.number_in-b.result c.number_fault-2.result c.number_in-b.ensures c.number_fault-2.ensures c.in_default.is (sym c.is_empty.ensures ∙ c.if-is_empty.false) c.in_default-number_fault.is _ _ c.value_of-2.ensures c.value_of-3.ensures ∙ at_second a.text.now a.l (rotation_of a.text.now a.l) c.next_word-v.result c.next_word-w.result c.next_word-v.ensures c.next_word-w.ensures
