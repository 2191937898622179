-- `put_line` meets its contract: the masks and the count, the ids, and LF.
use Rattle.catalogue.proofs.TextLaws.{head_small, line-appended}
use Rattle.catalogue.proofs.text.put_line.Goals as goal

pub put_head-first-requires : goal.put_head-first-requires
put_head-first-requires c = head_small _ _ c.choice-k.ensures _ c.row_count.ensures c.requires

pub returns : goal.returns
returns c = line-appended _ _ c.choice-k.ensures _ c.row_count.ensures c.put_head-first.ensures c.put_ids-last.ensures c.put_byte.ensures
