use mathlib.Core.Path.{refl, ◌∙◌}
use Rattle.study_reader.specs.Words.{next_line}
use Rattle.study_reader.proofs.WordLaws.{line-more, line-stop, past-end, line-end}
use Rattle.study_reader.proofs.words.next_line.Goals as goal

pub loop-at-init : goal.loop-at-init
loop-at-init c = refl

pub returns-then-text-at-eq10 : goal.returns-then-text-at-eq10
unfolding next_line
returns-then-text-at-eq10 c = line-stop c.args.text.now c.loop-at.at c.loop-at-test.true c.if-text-at-eq10.true ∙ c.loop-at.invariant

pub loop-at-preserved : goal.loop-at-preserved
unfolding next_line
loop-at-preserved c = line-more c.args.text.now c.loop-at.at c.loop-at-test.true c.if-text-at-eq10.false ∙ c.loop-at.invariant

pub returns : goal.returns
unfolding next_line
returns c = past-end c.args.text.now (next_line c.args.text.now) (λ k. line-end c.args.text.now k) c.args.from c.loop-at.at _ c.max.ensures c.loop-at.auto.at-end c.loop-at-test.false c.loop-at.invariant
