-- The export of `target_velocity` meets its contract.
use mathlib.Core.Path.{ap, ◌∙◌}
use Rattle.motor_table.specs.Targets.{target_of}
use Rattle.capi.proofs.tables.katydidzinc_motor_table_target.Goals as goal

pub returns : goal.returns
returns c = c.target_velocity.ensures ∙ ap target_of c.word_number.ensures
