-- `write_row` meets its contract, by those of its parts.
use mathlib.Core.Path.{sym, ◌∙◌}
use Rattle.spatial_model.proofs.SingleRecordsLaws.{row_fits, put-row-there, put-row-absent}
use Rattle.spatial_model.proofs.single_records.write_row.Goals as goal

pub put_row-requires : goal.put_row-requires
put_row-requires c = row_fits _ _ c.row_capacity.ensures c.if-k-row_capacity.true

pub returns-then-k-row_capacity : goal.returns-then-k-row_capacity
returns-then-k-row_capacity c =
    c.put_row.ensures ∙ sym (put-row-there _ _ _ (row_fits _ _ c.row_capacity.ensures c.if-k-row_capacity.true))

pub returns-else-k-row_capacity : goal.returns-else-k-row_capacity
returns-else-k-row_capacity c = sym (put-row-absent _ _ _ c.row_capacity.ensures c.if-k-row_capacity.false)
