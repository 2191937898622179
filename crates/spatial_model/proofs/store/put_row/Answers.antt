-- `put_row` is put together from what its callees promise: their stores follow each other.
use native.Mathlib.Nat.{add_assoc, add-zero}
use Rattle.spatial_model.specs.Store.{put_row}
use Rattle.spatial_model.proofs.store.put_row.Goals as goal

pub returns : goal.returns
unfolding put_row
returns c =
    rw (c.put6-4.ensures, c.put5.ensures, c.put6-3.ensures, c.put6-2.ensures, c.put6.ensures) (simp (add-zero, add_assoc))
