-- `signed` meets its contract.
use Rattle.study_text.proofs.NumberLaws.{sign-size}
use Rattle.study_text.proofs.number.signed.Goals as goal

pub returns : goal.returns
returns c = sign-size _ c.ranges.n _ c.unsigned_abs.ensures.value
