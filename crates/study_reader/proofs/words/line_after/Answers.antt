use mathlib.Core.Path.{refl, ap, ◌∙◌}
use Prim.Native.Nat.{ℕ, ◌+◌}
use lib.ListN.{drop}
use Rattle.study_reader.specs.Words.{feeds_in}
use Rattle.study_reader.proofs.WordLaws.{feed-here, feed-next, feed-end}
use borrow.Author.Rules.{rules}
use Rattle.study_reader.proofs.words.line_after.Goals as goal
use Rattle.study_reader.proofs.words.line_after.Goals.{then-bytes-i-eq10, else-bytes-i-eq10}

pub loop-i-init : goal.loop-i-init
loop-i-init c = (search rules, refl)

pub loop-i-preserved : goal.loop-i-preserved
loop-i-preserved c =
    let s3 = c.before.before.before in
    let a = s3.args in
    elim c.if-bytes-i-eq10.branch [
      | then-bytes-i-eq10 w ↦ (search rules, ap (λ (v : ℕ). v + feeds_in (drop (s3.loop-i.i + 1) a.bytes.now)) w.line-is ∙ feed-here a.bytes.now s3.loop-i.i s3.loop-i.line c.loop-i-test.true w.if-bytes-i-eq10.true ∙ s3.loop-i.invariant.1)
      | else-bytes-i-eq10 w ↦ (search rules, ap (λ (v : ℕ). v + feeds_in (drop (s3.loop-i.i + 1) a.bytes.now)) w.line-is ∙ feed-next a.bytes.now s3.loop-i.i s3.loop-i.line c.loop-i-test.true w.if-bytes-i-eq10.false ∙ s3.loop-i.invariant.1)
    ]

pub returns : goal.returns
returns c = feed-end c.args.bytes.now c.loop-i.i c.loop-i.line c.loop-i-test.false ∙ c.loop-i.invariant.1
