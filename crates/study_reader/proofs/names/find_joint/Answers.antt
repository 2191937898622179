use mathlib.Core.Path.{sym, ap, ◌∙◌}
use Rattle.study_reader.specs.Names.{find_joint}
use Rattle.study_reader.specs.Words.{same_words}
use Rattle.study_reader.specs.declared.words.Word.{Word}
use Rattle.study_reader.proofs.NameLaws.{first-all, first-here, first_next, first-none}
use Rattle.study_reader.proofs.names.find_joint.Goals as goal
use Rattle.study_reader.proofs.names.find_joint.Invariants.{named}

pub loop-j-init : goal.loop-j-init
loop-j-init c = first-all (named c.args.text.now c.args.names.now c.args.w) c.args.joints

pub returns-then-same_words : goal.returns-then-same_words
unfolding find_joint
returns-then-same_words c =
    let s3 = c.before.before.before in
    let a = s3.args in
    first-here (named a.text.now a.names.now a.w) s3.loop-j.j a.joints s3.loop-j-test.true (sym (c.same_words.ensures ∙ ap (λ (v : Word). same_words a.text.now v a.w) c.joint_name.ensures) ∙ c.if-same_words.true) ∙ s3.loop-j.invariant

pub loop-j-preserved : goal.loop-j-preserved
loop-j-preserved c =
    let s3 = c.before.before.before in
    let a = s3.args in
    first_next (named a.text.now a.names.now a.w) s3.loop-j.j a.joints s3.loop-j-test.true (sym (c.same_words.ensures ∙ ap (λ (v : Word). same_words a.text.now v a.w) c.joint_name.ensures) ∙ c.if-same_words.false) ∙ s3.loop-j.invariant

pub returns : goal.returns
unfolding find_joint
returns c =
    let a = c.args in
    first-none (named a.text.now a.names.now a.w) c.loop-j.j a.joints c.loop-j-test.false ∙ c.loop-j.invariant
