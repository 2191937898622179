use Rattle.model.specs.Store.{row_at}
use Rattle.model.proofs.store.row_at.Goals as goal

pub returns : goal.returns
unfolding row_at
returns c = rw (c.six_at-c.ensures, c.six_at-b.ensures, c.six_at-a.ensures)
