-- `read_most` meets its contract.
use mathlib.Core.Path.{sym, ◌∙◌}
use Rattle.study_reader.specs.Calls.{most_of}
use Rattle.study_reader.proofs.CallLaws.{at_first, true-is, false-is}
use Rattle.study_reader.proofs.calls.read_most.Goals as goal

pub returns-then-is_empty : goal.returns-then-is_empty
unfolding most_of
returns-then-is_empty c =
    let s3 = c.before.before.before in
    let a = s3.args in
    c.with_number.ensures ∙ true-is _ _ _ (sym c.is_empty.ensures ∙ c.if-is_empty.true) ∙ at_first a.text.now a.l (most_of a.text.now a.l) s3.next_word-w.result s3.next_word-w.ensures

pub returns : goal.returns
unfolding most_of
returns c =
    let s3 = c.before.before.before in
    let a = s3.args in
    c.read_whole.ensures ∙ false-is _ _ _ (sym c.is_empty.ensures ∙ c.if-is_empty.false) ∙ at_first a.text.now a.l (most_of a.text.now a.l) s3.next_word-w.result s3.next_word-w.ensures
