-- `read_sweeps` meets its contract.
use mathlib.Core.Path.{sym, ap, ◌∙◌}
use Rattle.study_reader.specs.Calls.{read_whole, after_rounds, sweeps_of}
use Rattle.study_reader.proofs.CallLaws.{at_first, true-is, false-is}
use Rattle.study_reader.proofs.calls.read_sweeps.Goals as goal

pub returns-then-is : goal.returns-then-is
unfolding sweeps_of
returns-then-is c =
    let s2 = c.before.before in
    let s4 = s2.before.before in
    let s6 = s4.before.before in
    let a = s6.args in
    c.after_rounds.ensures ∙ ap (after_rounds a.text.now) (c.read_whole-r.ensures ∙ ap (read_whole a.text.now) s2.with_place.ensures) ∙ true-is _ _ _ (sym s4.is.ensures ∙ s2.if-is.true) ∙ at_first a.text.now a.l (sweeps_of a.text.now a.l) s6.next_word-v.result s6.next_word-v.ensures

pub returns : goal.returns
unfolding sweeps_of
returns c =
    let s4 = c.before.before.before.before in
    let a = s4.args in
    c.wrong.ensures ∙ false-is _ _ _ (sym c.is.ensures ∙ c.if-is.false) ∙ at_first a.text.now a.l (sweeps_of a.text.now a.l) s4.next_word-v.result s4.next_word-v.ensures
