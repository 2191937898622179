-- `read_joint` meets its contract.
use mathlib.Core.Path.{ap, ◌∙◌}
use Rattle.study_reader.specs.Faults.{fault_no_joint}
use Rattle.study_reader.specs.Names.{find_joint}
use Rattle.study_reader.specs.Calls.{with_number, of_named}
use Rattle.study_reader.specs.declared.words.Word.{Word}
use Rattle.study_reader.specs.declared.calls.Line.{Line}
use Rattle.study_reader.proofs.CallLaws.{at_first, name-is, name-not}
use Rattle.study_reader.proofs.calls.read_joint.Goals as goal

pub returns-in-None : goal.returns-in-None
returns-in-None c =
    let s3 = c.before.before.before in
    let a = s3.args in
    c.wrong.ensures ∙ name-not a.l s3.next_word-w.result fault_no_joint _ c.in-None.is ∙ ap (of_named a.l _ fault_no_joint) c.find_joint.ensures ∙ at_first a.text.now a.l (λ (u : Word). of_named a.l u fault_no_joint (find_joint a.text.now a.names.now a.joints u)) _ s3.next_word-w.ensures

pub returns-in-Some : goal.returns-in-Some
returns-in-Some c =
    let s3 = c.before.before in
    let a = s3.args in
    c.with_number.ensures ∙ ap (λ (m : Line). with_number m c.in-Some.j) c.with_word.ensures ∙ name-is a.l _ fault_no_joint _ _ s3.in-Some.is ∙ ap (of_named a.l _ fault_no_joint) s3.find_joint.ensures ∙ at_first a.text.now a.l (λ (u : Word). of_named a.l u fault_no_joint (find_joint a.text.now a.names.now a.joints u)) _ s3.next_word-w.ensures
