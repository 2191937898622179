-- `read_whole` meets its contract.
use mathlib.Core.Path.{ap, ◌∙◌}
use Rattle.study_reader.specs.Words.{whole_of}
use Rattle.study_reader.specs.Calls.{with_number, of_whole}
use Rattle.study_reader.specs.declared.words.Word.{Word}
use Rattle.study_reader.specs.declared.calls.Line.{Line}
use Rattle.study_reader.proofs.CallLaws.{at_first, whole_is, whole-not}
use Rattle.study_reader.proofs.calls.read_whole.Goals as goal

pub returns-in-Some : goal.returns-in-Some
unfolding of_whole
returns-in-Some c =
    let s3 = c.before.before in
    let s5 = s3 in
    let a = s5.args in
    c.with_number.ensures ∙ ap (λ (m : Line). with_number m s3.in-Some.n) c.with_word.ensures ∙ whole_is a.l _ _ _ s3.in-Some.is ∙ ap (of_whole a.l _) s5.whole_number.ensures ∙ at_first a.text.now a.l (λ (u : Word). of_whole a.l u (whole_of a.text.now u)) _ s5.next_word-w.ensures

pub returns-in-None : goal.returns-in-None
unfolding of_whole
returns-in-None c =
    let s3 = c.before.before.before in
    let a = s3.args in
    c.wrong.ensures ∙ whole-not a.l s3.next_word-w.result _ c.in-None.is ∙ ap (of_whole a.l _) s3.whole_number.ensures ∙ at_first a.text.now a.l (λ (u : Word). of_whole a.l u (whole_of a.text.now u)) _ s3.next_word-w.ensures
