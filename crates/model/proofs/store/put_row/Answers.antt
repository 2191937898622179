use native.Mathlib.Nat.{add_assoc, add-zero}
use Rattle.model.specs.Store.{put_row}
use Rattle.model.proofs.store.put_row.Goals as goal

pub returns : goal.returns
unfolding put_row
returns c =
    rw (c.put6-3.ensures, c.put6-2.ensures, c.put6.ensures) (simp (add-zero, add_assoc))
