-- `impulses` meets its contract. Before turn k, the rows from k on added to what is summed give what all rows give.
use Prim.Native.Nat.{◌≤◌}
use mathlib.Core.Path.{◌≡◌}
use lib.ListN.{length, drop}
use Rattle.rows.specs.Reaction.{rows_in, impulses_of, given_by}
use Rattle.rows.proofs.reaction.impulses.Given as goal

abbrev pub invariant-loop-k : goal.invariant-loop-k
invariant-loop-k l = (l.n ≤ 6) × (l.n ≡ length (rows_in l.rows)) × (given_by l.sums (drop l.k (rows_in l.rows)) ≡ impulses_of (rows_in l.rows))
