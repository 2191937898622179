-- `put_row` meets its contract: the row is there.
use mathlib.Core.Path.{◌∙◌}
use borrow.Author.Rules.{rules}
use Rattle.spatial_model.proofs.SingleRecordsLaws.{put-row-there}
use Rattle.spatial_capi.proofs.stored.put_row.Goals as goal

pub returns : goal.returns
returns c = c.write_row.ensures ∙ put-row-there _ _ _ (search rules)
