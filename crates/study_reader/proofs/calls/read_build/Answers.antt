-- `read_build` meets its contract.
use mathlib.Core.Path.{refl, sym, ap, ◌∙◌}
use Rattle.study_reader.specs.Words.{next_word}
use Rattle.study_reader.specs.Calls.{read_substep, build_of}
use Rattle.study_reader.proofs.CallLaws.{at_second, false-is, warm-not, warm-is}
use Rattle.study_reader.proofs.calls.read_build.Goals as goal

pub returns-in-Some : goal.returns-in-Some
returns-in-Some c =
    let a = c.args in
    c.wrong.ensures ∙ warm-not a.text.now a.l c.next_word-v.result c.next_word-w.result c.number_in-c.result c.number_fault.result c.number_in-c.ensures c.number_fault.ensures (sym c.is.ensures ∙ c.if-is.true) _ c.in-Some.is ∙ at_second a.text.now a.l (build_of a.text.now a.l) c.next_word-v.result c.next_word-w.result c.next_word-v.ensures c.next_word-w.ensures

pub returns-then-is : goal.returns-then-is
returns-then-is c =
    let a = c.args in
    c.read_substep.ensures ∙ ap (read_substep a.text.now) c.with_warm.ensures ∙ warm-is a.text.now a.l c.next_word-v.result c.next_word-w.result c.number_in-c.result c.number_fault.result c.number_in-c.ensures c.number_fault.ensures (sym c.is.ensures ∙ c.if-is.true) c.in_default.is _ c.value_of.ensures ∙ at_second a.text.now a.l (build_of a.text.now a.l) c.next_word-v.result c.next_word-w.result c.next_word-v.ensures c.next_word-w.ensures

pub returns : goal.returns
unfolding build_of
returns c =
    let a = c.args in
    c.read_substep-2.ensures ∙ false-is _ _ _ (sym c.is.ensures ∙ c.if-is.false) ∙ at_second a.text.now a.l (build_of a.text.now a.l) c.next_word-v.result (next_word a.text.now c.next_word-v.result.end) c.next_word-v.ensures refl
