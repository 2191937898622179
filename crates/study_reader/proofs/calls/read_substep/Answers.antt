-- `read_substep` meets its contract.
use mathlib.Core.Path.{sym, ap, ◌∙◌}
use Rattle.study_reader.specs.Calls.{read_whole, substep_of}
use Rattle.study_reader.proofs.CallLaws.{at_first, true-is, false-is}
use Rattle.study_reader.proofs.calls.read_substep.Goals as goal

pub returns-then-is_empty : goal.returns-then-is_empty
unfolding substep_of
returns-then-is_empty c =
    let a = c.args in
    true-is _ _ _ (sym c.is_empty.ensures ∙ c.if-is_empty.true) ∙ at_first a.text.now a.l (substep_of a.text.now a.l) c.next_word-v.result c.next_word-v.ensures

pub returns-then-is : goal.returns-then-is
unfolding substep_of
returns-then-is c =
    let s3 = c.before.before.before in
    let s5 = s3.before.before in
    let s7 = s5.before.before in
    let a = s7.args in
    c.read_whole.ensures ∙ ap (read_whole a.text.now) c.with_place.ensures ∙ true-is _ _ _ (sym s3.is.ensures ∙ c.if-is.true) ∙ false-is _ _ _ (sym s5.is_empty.ensures ∙ s5.if-is_empty.false) ∙ at_first a.text.now a.l (substep_of a.text.now a.l) s7.next_word-v.result s7.next_word-v.ensures

pub returns : goal.returns
unfolding substep_of
returns c =
    let s4 = c.before.before.before.before in
    let s6 = s4.before.before in
    let a = s6.args in
    c.wrong.ensures ∙ false-is _ _ _ (sym c.is.ensures ∙ c.if-is.false) ∙ false-is _ _ _ (sym s4.is_empty.ensures ∙ s4.if-is_empty.false) ∙ at_first a.text.now a.l (substep_of a.text.now a.l) s6.next_word-v.result s6.next_word-v.ensures
