use mathlib.Core.Path.{sym, ap, ◌∙◌}
use Rattle.study_reader.specs.Names.{find_body}
use Rattle.study_reader.specs.Words.{same_words}
use Rattle.study_reader.specs.declared.words.Word.{Word}
use Rattle.study_reader.proofs.NameLaws.{first-all, first-here, first_next, first-none}
use Rattle.study_reader.proofs.names.find_body.Goals as goal
use Rattle.study_reader.proofs.names.find_body.Invariants.{named}

pub loop-i-init : goal.loop-i-init
loop-i-init c = first-all (named c.args.text.now c.args.names.now c.args.w) c.args.bodies

pub returns-then-same_words : goal.returns-then-same_words
unfolding find_body
returns-then-same_words c =
    let s3 = c.before.before.before in
    let a = s3.args in
    first-here (named a.text.now a.names.now a.w) s3.loop-i.i a.bodies s3.loop-i-test.true (sym (c.same_words.ensures ∙ ap (λ (v : Word). same_words a.text.now v a.w) c.body_name.ensures) ∙ c.if-same_words.true) ∙ s3.loop-i.invariant

pub loop-i-preserved : goal.loop-i-preserved
loop-i-preserved c =
    let s3 = c.before.before.before in
    let a = s3.args in
    first_next (named a.text.now a.names.now a.w) s3.loop-i.i a.bodies s3.loop-i-test.true (sym (c.same_words.ensures ∙ ap (λ (v : Word). same_words a.text.now v a.w) c.body_name.ensures) ∙ c.if-same_words.false) ∙ s3.loop-i.invariant

pub returns : goal.returns
unfolding find_body
returns c =
    let a = c.args in
    first-none (named a.text.now a.names.now a.w) c.loop-i.i a.bodies c.loop-i-test.false ∙ c.loop-i.invariant
