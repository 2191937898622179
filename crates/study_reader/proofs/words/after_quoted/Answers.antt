use mathlib.Core.Path.{refl, sym, ◌∙◌}
use mathlib.Core.Bool.{not}
use Prim.Native.Nat.{ℕ}
use Rattle.study_reader.specs.Words.{ends_quoted, after_quoted}
use Rattle.study_reader.proofs.WordLaws.{past-end, run_more, run-stop, run_end, open-test, shut-test}
use Rattle.study_reader.proofs.words.after_quoted.Goals as goal

pub loop-at-init : goal.loop-at-init
loop-at-init c = refl

pub returns-then-ends_quoted : goal.returns-then-ends_quoted
returns-then-ends_quoted c =
    let s3 = c.before.before.before in
    let s6 = s3 in
    run-stop (λ (b : ℕ). not (ends_quoted b)) s6.args.text.now s3.loop-at.at s3.loop-at-test.true (shut-test _ (sym c.ends_quoted.ensures ∙ c.if-ends_quoted.true)) ∙ s3.loop-at.invariant

pub loop-at-preserved : goal.loop-at-preserved
loop-at-preserved c =
    let s3 = c.before.before.before in
    let s6 = s3 in
    run_more (λ (b : ℕ). not (ends_quoted b)) s6.args.text.now s3.loop-at.at s3.loop-at-test.true (open-test _ (sym c.ends_quoted.ensures ∙ c.if-ends_quoted.false)) ∙ s3.loop-at.invariant

pub returns : goal.returns
returns c = past-end c.args.text.now (after_quoted c.args.text.now) (λ k. run_end (λ b. not (ends_quoted b)) c.args.text.now k) c.args.from c.loop-at.at _ c.max.ensures c.loop-at.auto.at-end c.loop-at-test.false c.loop-at.invariant
