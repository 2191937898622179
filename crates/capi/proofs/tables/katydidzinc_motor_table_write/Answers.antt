-- The export of `write_table` meets its contract.
use mathlib.Core.Path.{sym, ◌∙◌}
use Rattle.capi.proofs.TableExportsLaws.{written-length, written-refused}
use Rattle.capi.proofs.tables.katydidzinc_motor_table_write.Goals as goal

pub returns-in-Ok : goal.returns-in-Ok
returns-in-Ok c = record { value = written-length _ _ (sym c.write_table.ensures.0 ∙ c.in-Ok.is); out_after = c.write_table.ensures.1 }

pub returns-in-Err : goal.returns-in-Err
returns-in-Err c = record { value = c.refused_number.ensures ∙ written-refused _ _ (sym c.write_table.ensures.0 ∙ c.in-Err.is); out_after = c.write_table.ensures.1 }
