-- A loop's invariant: the work that is left (proofs/Orthogonalise.antt), done to the list, gives what the loop is to make. No field of a row is named.
use mathlib.Core.Path.{◌≡◌}
use mathlib.Core.List.{map}
use lib.ListN.{length}
use Rattle.rows.specs.Groups.{group_of, reduce_of, finalize_of}
use Rattle.rows.proofs.Orthogonalise.{between, rest}
use Rattle.rows.proofs.joint_constraint_helper.finalize_constraints.Given as goal

abbrev pub invariant-loop-i : goal.invariant-loop-i
invariant-loop-i g l =
    let pair_of = g.R.Row.pair in
    between (map (pair_of l.imsum l.inv_dot_jj l.c_j)) l.i l.n l.rows ≡ between (map (pair_of l.imsum l.inv_dot_jj l.c_j)) l.initial.i l.n l.initial.rows

abbrev pub invariant-loop-j : goal.invariant-loop-j
invariant-loop-j g l =
    let t = g.R.Row in
    let group = group_of _ _ t.im_sum t.head t.is_lock t.inv_dot t.pair in
    (l.n ≡ length l.rows) × (rest (t.head l.imsum) t.is_lock (reduce_of group l.imsum) l.j l.n l.rows ≡ finalize_of group l.fn.rows)
