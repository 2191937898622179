-- `rows_with` meets its contract. Before turn i it has the rows of the first i joints together, with the new masks of joint j, at most six for each.
use Prim.Native.Nat.{◌≤◌}
use mathlib.Core.Path.{◌≡◌}
use Rattle.multibody.specs.Counts.{rows_before}
use Rattle.model.specs.Store.{put_masks}
use Rattle.model.specs.Planar.{plane}
use Rattle.model.proofs.counts.rows_with.Given as goal

abbrev pub invariant-loop-i : goal.invariant-loop-i
invariant-loop-i l = (l.i ≤ l.n) × (l.first ≡ rows_before plane (put_masks l.words l.j l.masks) l.i)
