-- `field_after` meets its contract.
use Rattle.study_reader.specs.Tables.{field_after}
use Rattle.study_reader.proofs.fields.field_after.Goals as goal

pub returns : goal.returns
unfolding field_after
returns c = cc
