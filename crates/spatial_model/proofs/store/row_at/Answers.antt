-- `row_at` is put together from what its callee promises.
use Rattle.spatial_model.specs.Store.{row_at}
use Rattle.spatial_model.proofs.store.row_at.Goals as goal

pub returns : goal.returns
unfolding row_at
returns c =
    rw (c.six_at-e.ensures, c.six_at-d.ensures, c.six_at-c.ensures, c.six_at-b.ensures, c.six_at-a.ensures)
