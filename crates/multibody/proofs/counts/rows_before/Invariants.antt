-- `rows_before` meets its contract. Before turn i it has the rows of the first i joints together, no more than as many joints have words.
use Prim.Native.Nat.{◌*◌, ◌≤◌}
use mathlib.Core.Path.{◌≡◌}
use Rattle.multibody.specs.Counts.{rows_before}
use Rattle.multibody.proofs.counts.rows_before.Given as goal

abbrev pub invariant-loop-i : goal.invariant-loop-i
invariant-loop-i g l = (l.i ≤ l.j) × (l.first ≡ rows_before (g.K.Kind.system.store) l.words l.i) × (l.first ≤ l.i * g.K.Kind.system.store.words_width)
