-- `put_row` meets its contract: the row is there.
use mathlib.Core.Path.{◌∙◌}
use borrow.Author.Rules.{rules}
use Rattle.model.proofs.SingleRecordsLaws.{put-row-there}
use Rattle.capi.proofs.stored.put_row.Goals as goal

pub returns : goal.returns
returns c = c.write_row.ensures ∙ put-row-there _ _ _ (search rules)
