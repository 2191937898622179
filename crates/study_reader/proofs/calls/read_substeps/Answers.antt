-- `read_substeps` meets its contract.
use mathlib.Core.Path.{sym, ap, ◌∙◌}
use Rattle.study_reader.specs.Calls.{read_whole, substeps_of}
use Rattle.study_reader.proofs.CallLaws.{at_first, true-is, false-is}
use Rattle.study_reader.proofs.calls.read_substeps.Goals as goal

pub returns-then-is : goal.returns-then-is
unfolding substeps_of
returns-then-is c =
    let s3 = c.before.before.before in
    let s5 = s3.before.before in
    let a = s5.args in
    c.read_whole.ensures ∙ ap (read_whole a.text.now) c.with_place.ensures ∙ true-is _ _ _ (sym s3.is.ensures ∙ c.if-is.true) ∙ at_first a.text.now a.l (substeps_of a.text.now a.l) s5.next_word-v.result s5.next_word-v.ensures

pub returns : goal.returns
unfolding substeps_of
returns c =
    let s4 = c.before.before.before.before in
    let a = s4.args in
    c.wrong.ensures ∙ false-is _ _ _ (sym c.is.ensures ∙ c.if-is.false) ∙ at_first a.text.now a.l (substeps_of a.text.now a.l) s4.next_word-v.result s4.next_word-v.ensures
