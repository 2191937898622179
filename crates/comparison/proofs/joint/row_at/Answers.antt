-- `row_at` meets its contract: the row is there.
use mathlib.Core.Path.{◌∙◌}
use borrow.Author.Rules.{rules}
use Rattle.model.proofs.SingleRecordsLaws.{row-there}
use Rattle.comparison.proofs.joint.row_at.Goals as goal

pub returns : goal.returns
returns c = c.read_row.ensures ∙ row-there _ _ (search rules)
