use mathlib.Core.Path.{refl, ap, ◌∙◌}
use Prim.Native.Nat.{ℕ, ◌+◌}
use lib.ListN.{drop}
use Rattle.study_reader.specs.Words.{column_after}
use Rattle.study_reader.proofs.WordLaws.{column-feed, column-next, column-end}
use borrow.Author.Rules.{rules}
use Rattle.study_reader.proofs.words.column_after.Goals as goal
use Rattle.study_reader.proofs.words.column_after.Goals.{then-bytes-i-eq10, else-bytes-i-eq10}

pub loop-i-init : goal.loop-i-init
loop-i-init c = (search rules, refl)

pub loop-i-preserved : goal.loop-i-preserved
loop-i-preserved c =
    let s3 = c.before.before.before in
    let a = s3.args in
    elim c.if-bytes-i-eq10.branch [
      | then-bytes-i-eq10 w ↦ (search rules, ap (λ (v : ℕ). column_after v (drop (s3.loop-i.i + 1) a.bytes.now)) w.column-is ∙ column-feed a.bytes.now s3.loop-i.i s3.loop-i.column c.loop-i-test.true w.if-bytes-i-eq10.true ∙ s3.loop-i.invariant.1)
      | else-bytes-i-eq10 w ↦ (search rules, ap (λ (v : ℕ). column_after v (drop (s3.loop-i.i + 1) a.bytes.now)) w.column-is ∙ column-next a.bytes.now s3.loop-i.i s3.loop-i.column c.loop-i-test.true w.if-bytes-i-eq10.false ∙ s3.loop-i.invariant.1)
    ]

pub returns : goal.returns
returns c = column-end c.args.bytes.now c.loop-i.i c.loop-i.column c.loop-i-test.false ∙ c.loop-i.invariant.1
