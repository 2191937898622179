use mathlib.Core.Path.{refl, sym, ◌∙◌}
use Rattle.study_reader.specs.Words.{is_blank, after_blanks}
use Rattle.study_reader.proofs.WordLaws.{run_more, run-stop, past-end, run_end}
use Rattle.study_reader.proofs.words.after_blanks.Goals as goal

pub loop-at-init : goal.loop-at-init
loop-at-init c = refl

pub returns-then-not-is_blank : goal.returns-then-not-is_blank
returns-then-not-is_blank c =
    let s3 = c.before.before.before in
    let s6 = s3 in
    run-stop is_blank s6.args.text.now s3.loop-at.at s3.loop-at-test.true (sym c.is_blank.ensures ∙ c.if-not-is_blank.true) ∙ s3.loop-at.invariant

pub loop-at-preserved : goal.loop-at-preserved
loop-at-preserved c =
    let s3 = c.before.before.before in
    let s6 = s3 in
    run_more is_blank s6.args.text.now s3.loop-at.at s3.loop-at-test.true (sym c.is_blank.ensures ∙ c.if-not-is_blank.false) ∙ s3.loop-at.invariant

pub returns : goal.returns
returns c = past-end c.args.text.now (after_blanks c.args.text.now) (λ k. run_end is_blank c.args.text.now k) c.args.from c.loop-at.at _ c.max.ensures c.loop-at.auto.at-end c.loop-at-test.false c.loop-at.invariant
