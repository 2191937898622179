-- `read_settle` meets its contract.
use mathlib.Core.Path.{ap, ◌∙◌}
use Rattle.study_reader.specs.Calls.{read_most, settle_of}
use Rattle.study_reader.proofs.CallLaws.{at_first, tolerance-not, tolerance-is}
use Rattle.study_reader.proofs.calls.read_settle.Goals as goal

pub returns-in-Some : goal.returns-in-Some
returns-in-Some c =
    let a = c.args in
    c.wrong.ensures ∙ tolerance-not a.text.now a.l c.next_word-v.result c.number_in-x.result c.number_fault.result c.number_in-x.ensures c.number_fault.ensures _ c.in-Some.is ∙ at_first a.text.now a.l (settle_of a.text.now a.l) c.next_word-v.result c.next_word-v.ensures

pub returns : goal.returns
returns c =
    let a = c.args in
    c.read_most.ensures ∙ ap (read_most a.text.now) c.with_pose.ensures ∙ tolerance-is a.text.now a.l c.next_word-v.result c.number_in-x.result c.number_fault.result c.number_in-x.ensures c.number_fault.ensures c.in_default.is _ c.value_of.ensures ∙ at_first a.text.now a.l (settle_of a.text.now a.l) c.next_word-v.result c.next_word-v.ensures
