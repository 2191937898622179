-- `store_firsts` meets its contract, a joint a turn.
use Prim.Native.Nat.{◌-◌, ◌≤◌}
use mathlib.Core.Path.{◌≡◌}
use lib.ListN.{length}
use Rattle.multibody.specs.Counts.{rows_before, store_firsts}
use Rattle.model.specs.Planar.{plane}
use Rattle.model.proofs.counts.store_firsts.Given as goal

abbrev pub invariant-loop-j : goal.invariant-loop-j
invariant-loop-j l =
    (l.j ≤ l.n) × (length l.words ≡ length l.initial.words) × (l.first ≡ rows_before plane l.words l.j) × (store_firsts plane l.j (l.n - l.j) l.words ≡ store_firsts plane 0 l.n l.initial.words)
