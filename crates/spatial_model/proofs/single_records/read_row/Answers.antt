-- `read_row` meets its contract, by those of its parts.
use mathlib.Core.Path.{sym, ◌∙◌}
use Rattle.spatial_model.proofs.SingleRecordsLaws.{row_fits, row-there, row-absent}
use Rattle.spatial_model.proofs.single_records.read_row.Goals as goal

pub row_at-requires : goal.row_at-requires
row_at-requires c = row_fits _ _ c.row_capacity.ensures c.if-k-row_capacity.true

pub returns-then-k-row_capacity : goal.returns-then-k-row_capacity
returns-then-k-row_capacity c =
    c.row_at.ensures ∙ sym (row-there _ _ (row_fits _ _ c.row_capacity.ensures c.if-k-row_capacity.true))

pub returns : goal.returns
returns c =
    c.blank_row.ensures ∙ sym (row-absent _ _ c.row_capacity.ensures c.if-k-row_capacity.false)
