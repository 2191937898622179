-- `few_substeps_or_back` meets its contract: the rows past the total are as they were, so that the copies put back make the whole.
use Rattle.frames.proofs.BackLaws.{rows_back, bodies-back}
use Rattle.frames.proofs.frame.few_substeps_or_back.Goals as goal

pub returns-in_default : goal.returns-in_default
returns-in_default c =
    let r = c.in_default.ensures in (
      r.0,
      bodies-back 16 _ _ _ _ _ _ c.requires.bodies_bound c.all_substeps.auto.bodies c.room_of-body_numbers.ensures c.copy_first-2.ensures c.copy_first-in_default-2.ensures,
      rows_back 16 _ _ _ _ _ _ _ _ _ _ r.1 c.requires.numbers_bound c.requires.room c.room_of-row_numbers.ensures c.copy_first.ensures c.copy_first-in_default.ensures,
    )
