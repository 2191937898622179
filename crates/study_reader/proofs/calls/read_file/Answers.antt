-- `read_file` meets its contract.
use mathlib.Core.Path.{sym, ◌∙◌}
use Rattle.study_reader.specs.Calls.{file_of}
use Rattle.study_reader.proofs.Places.{quote-inside}
use Rattle.study_reader.proofs.CallLaws.{at_first, true-is, false-is}
use Rattle.study_reader.proofs.calls.read_file.Goals as goal

pub returns-then-is_empty : goal.returns-then-is_empty
unfolding file_of
returns-then-is_empty c =
    let s3 = c.before.before.before in
    let a = s3.args in
    c.wrong.ensures ∙ true-is _ _ _ (sym c.is_empty.ensures ∙ c.if-is_empty.true)
    ∙ at_first a.text.now a.l (file_of a.text.now a.l) s3.next_word-w.result s3.next_word-w.ensures

pub read_quoted-requires : goal.read_quoted-requires
read_quoted-requires c = quote-inside _ _ (sym c.is_quote.ensures ∙ c.if-is_quote.true)

pub returns-then-is_quote : goal.returns-then-is_quote
unfolding file_of
returns-then-is_quote c =
    let f = c.before in
    let d = f.before.before in
    let s3 = d.before.before in
    let a = s3.args in
    c.read_quoted.ensures
    ∙ true-is _ _ _ (sym f.is_quote.ensures ∙ f.if-is_quote.true)
    ∙ false-is _ _ _ (sym d.is_empty.ensures ∙ d.if-is_empty.false)
    ∙ at_first a.text.now a.l (file_of a.text.now a.l) s3.next_word-w.result s3.next_word-w.ensures

pub returns : goal.returns
unfolding file_of
returns c =
    let f = c.before in
    let d = f.before.before in
    let s3 = d.before.before in
    let a = s3.args in
    c.with_word.ensures
    ∙ false-is _ _ _ (sym f.is_quote.ensures ∙ f.if-is_quote.false)
    ∙ false-is _ _ _ (sym d.is_empty.ensures ∙ d.if-is_empty.false)
    ∙ at_first a.text.now a.l (file_of a.text.now a.l) s3.next_word-w.result s3.next_word-w.ensures
