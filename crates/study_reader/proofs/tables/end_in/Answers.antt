use mathlib.Core.Path.{◌≡◌, refl, sym, ap, subst, ◌∙◌}
use mathlib.Core.List.{List}
use Prim.Native.Nat.{ℕ, ◌+◌, ◌≤◌}
use native.Mathlib.Omega.{arith}
use lib.ListN.{length}
use Rattle.study_reader.specs.Words.{bytes_of, is_word}
use Rattle.study_reader.specs.Tables.{word_end, end_in}
use Rattle.study_reader.specs.declared.words.Word.{Word}
use Rattle.study_reader.proofs.Places.{next-line-far}
use Rattle.study_reader.proofs.KeywordLaws.{end-here, end-next, end_none}
use Rattle.study_reader.proofs.tables.end_in.Goals as goal

pub loop-at-init : goal.loop-at-init
unfolding end_in
loop-at-init c = (length c.args.table.now, omega arith, refl)

pub returns-then-is : goal.returns-then-is
unfolding is_word
returns-then-is c =
    let word = c.before.before.before in
    let loop = word.loop-at in
    let a = word.args in
    let same = c.is.ensures ∙ ap (λ (l : List ℕ). is_word a.text.now a.w l) (c.bytes_of.ensures ∙ ap (λ (v : Word). bytes_of a.table.now v) word.next_word-v.ensures) in
    ap (λ (v : Word). v.end) word.next_word-v.ensures
    ∙ end-here a.table.now (bytes_of a.text.now a.w) loop.at loop.invariant.0 loop.invariant.1 word.loop-at-test.true (sym same ∙ c.if-is.true)
    ∙ loop.invariant.2

pub loop-at-smaller : goal.loop-at-smaller
loop-at-smaller c =
    let turn = c.before.before.before.before.before in
    omega (arith, next-line-far turn.args.table.now turn.loop-at.at turn.loop-at-test.true)

pub loop-at-preserved : goal.loop-at-preserved
unfolding is_word
loop-at-preserved c =
    let word = c.before.before.before.before in
    let loop = word.loop-at in
    let a = word.args in
    let same = c.is.ensures ∙ ap (λ (l : List ℕ). is_word a.text.now a.w l) (c.bytes_of.ensures ∙ ap (λ (v : Word). bytes_of a.table.now v) word.next_word-v.ensures) in
    let next = end-next a.table.now (bytes_of a.text.now a.w) loop.at loop.invariant.0 loop.invariant.1 word.loop-at-test.true (sym same ∙ c.if-is.false) in
    subst (λ (at : ℕ). (n : ℕ) × (length a.table.now ≤ at + n) × (word_end n a.table.now (bytes_of a.text.now a.w) at ≡ end_in a.table.now (bytes_of a.text.now a.w))) (sym c.next_line-at.ensures) (next.0, next.1, next.2 ∙ loop.invariant.2)

pub returns : goal.returns
returns c =
    let a = c.args in
    end_none a.table.now (bytes_of a.text.now a.w) c.loop-at.at c.loop-at.invariant.0 c.loop-at-test.false ∙ c.loop-at.invariant.2
