-- `put_head` meets its contract.
use Rattle.catalogue.specs.Text.{head_text}
use Rattle.catalogue.proofs.text.put_head.Goals as goal

pub returns : goal.returns
unfolding head_text
returns c = c.put_text.ensures
