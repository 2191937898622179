-- The export of `read_table` meets its contract.
use mathlib.Core.Path.{sym, ◌∙◌}
use Rattle.capi.proofs.TableExportsLaws.{read_count, read-refused}
use Rattle.capi.proofs.tables.katydidzinc_motor_table_read.Goals as goal

pub returns-in-Ok : goal.returns-in-Ok
returns-in-Ok c = read_count _ _ (sym c.read_table.ensures ∙ c.in-Ok.is)

pub returns-in-Err : goal.returns-in-Err
returns-in-Err c = c.refused_number.ensures ∙ read-refused _ _ (sym c.read_table.ensures ∙ c.in-Err.is)
