-- `read_quoted` meets its contract.
use mathlib.Core.Path.{sym, ap, ◌∙◌}
use Prim.Native.Nat.{◌+◌}
use Rattle.study_reader.specs.Calls.{with_place, quoted_of}
use Rattle.study_reader.specs.declared.calls.Line.{Line}
use Rattle.study_reader.proofs.Places.{quote-inside}
use Rattle.study_reader.proofs.CallLaws.{true-is, false-is}
use borrow.Author.Rules.{rules}
use Rattle.study_reader.proofs.calls.read_quoted.Goals as goal

pub returns-then-is_empty : goal.returns-then-is_empty
unfolding quoted_of
returns-then-is_empty c =
    let e = c.before.before in
    let q = e.before in
    let a = q.args in
    c.wrong.ensures ∙ true-is _ _ _ (sym e.is_empty.ensures ∙ c.if-is_empty.true) ∙ ap (quoted_of a.text.now a.l a.at) q.quoted_word-w.ensures

pub overflow_add-w : goal.overflow_add-w
overflow_add-w c =
    let f = c.before.before in
    search (rules, quote-inside _ _ (sym f.is_quote.ensures ∙ f.if-is_quote.true))

pub returns-then-is_quote : goal.returns-then-is_quote
unfolding quoted_of
returns-then-is_quote c =
    let v = c.before.before in
    let f = v.before in
    let d = f.before.before in
    let q = d.before.before in
    let a = q.args in
    c.with_place.ensures
    ∙ ap (λ (x : Line). with_place x (q.quoted_word-w.result.end + 1)) v.with_word.ensures
    ∙ true-is _ _ _ (sym f.is_quote.ensures ∙ f.if-is_quote.true)
    ∙ false-is _ _ _ (sym d.is_empty.ensures ∙ d.if-is_empty.false)
    ∙ ap (quoted_of a.text.now a.l a.at) q.quoted_word-w.ensures

pub returns : goal.returns
unfolding quoted_of
returns c =
    let f = c.before in
    let d = f.before.before in
    let q = d.before.before in
    let a = q.args in
    c.wrong-2.ensures
    ∙ false-is _ _ _ (sym f.is_quote.ensures ∙ f.if-is_quote.false)
    ∙ false-is _ _ _ (sym d.is_empty.ensures ∙ d.if-is_empty.false)
    ∙ ap (quoted_of a.text.now a.l a.at) q.quoted_word-w.ensures
