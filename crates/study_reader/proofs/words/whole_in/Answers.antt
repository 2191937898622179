use mathlib.Core.Path.{sym, ◌∙◌}
use borrow.Author.Tests.{eqb-true}
use Rattle.study_reader.proofs.WordLaws.{whole-empty, whole-some, whole-low, whole-high, whole-large, whole-digit, whole-end}
use borrow.Author.Rules.{rules}
use Rattle.study_reader.proofs.words.whole_in.Goals as goal

pub returns-then-is_empty : goal.returns-then-is_empty
returns-then-is_empty c = whole-empty c.args.bytes.now (eqb-true _ _ (sym c.is_empty.ensures ∙ c.if-is_empty.true))

pub loop-i-init : goal.loop-i-init
loop-i-init c = (search rules, whole-some c.args.bytes.now (search rules))

pub returns-then-b-lt48 : goal.returns-then-b-lt48
returns-then-b-lt48 c = whole-low c.args.bytes.now c.loop-i.i c.loop-i.n c.loop-i-test.true c.if-b-lt48.true ∙ c.loop-i.invariant.1

pub returns-then-b-gt57 : goal.returns-then-b-gt57
returns-then-b-gt57 c =
    let s3 = c.before.before.before in
    let s6 = s3 in
    whole-high s6.args.bytes.now s3.loop-i.i s3.loop-i.n s3.loop-i-test.true c.if-b-lt48.false c.if-b-gt57.true ∙ s3.loop-i.invariant.1

pub returns-then-n-gt429496728 : goal.returns-then-n-gt429496728
returns-then-n-gt429496728 c =
    let s4 = c.before.before.before.before in
    let s7 = s4 in
    whole-large s7.args.bytes.now s4.loop-i.i s4.loop-i.n s4.loop-i-test.true c.if-b-lt48.false c.if-b-gt57.false c.if-n-gt429496728.true ∙ s4.loop-i.invariant.1

pub loop-i-preserved : goal.loop-i-preserved
loop-i-preserved c =
    let s4 = c.before.before.before.before in
    let s7 = s4 in
    (search rules, whole-digit s7.args.bytes.now s4.loop-i.i s4.loop-i.n s4.loop-i-test.true c.if-b-lt48.false c.if-b-gt57.false ∙ s4.loop-i.invariant.1)

pub returns : goal.returns
returns c = whole-end c.args.bytes.now c.loop-i.i c.loop-i.n c.loop-i-test.false c.loop-i.invariant.0 ∙ c.loop-i.invariant.1
