-- `read_cleared` is put together from what its callees promise.
use Rattle.study_capi.specs.StudyExports.{cleared, cleared_words}
use Rattle.study_capi.proofs.ReadLaws.{all-cleared}
use Rattle.study_capi.proofs.read.read_cleared.Goals as goal

pub returns : goal.returns
unfolding cleared cleared_words
returns c =
    let a = c.args in
    all-cleared a.text.now a.numbers.now a.origins.now a.words.now a.names.now
    (c.fill.ensures.after (λ y e. e)) (c.fill-2.ensures.after (λ y e. e)) (c.fill-3.ensures.after (λ y e. e)) (c.fill-4.ensures.after (λ y e. e))
    c.read_study.ensures
