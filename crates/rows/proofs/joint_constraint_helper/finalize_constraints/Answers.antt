-- `finalize_constraints` meets its contract, for any kind of row.
use mathlib.Core.Path.{refl, sym, ap, ◌∙◌}
use native.Mathlib.Omega.{arith}
use mathlib.Core.List.{map}
use lib.ListN.{length, length-set}
use Prim.Native.Nat.{◌≤◌}
use Rattle.rows.specs.Groups.{group_of, reduce_of}
use Rattle.rows.proofs.Orthogonalise.{between-end, pair_turn, free-turn, rest_end}
use Rattle.rows.proofs.GroupLaws.{rest_of, lock-row, start, none}
use Rattle.rows.proofs.joint_constraint_helper.finalize_constraints.Goals as goal
use Rattle.rows.proofs.joint_constraint_helper.finalize_constraints.Goals.{then-is_lock+else-loop-i-test, else-is_lock}

pub loop-j-init : goal.loop-j-init
loop-j-init g c =
    let t = g.R.Row in
    let group = group_of _ _ t.im_sum t.head t.is_lock t.inv_dot t.pair in
    (refl, ap (λ y. rest_of group y 0 (length c.args.rows.now) c.args.rows.now) (c.im_sum-imsum.ensures ∙ ap t.im_sum c.index-rows-0.is) ∙ start group c.args.rows.now _ c.if-n-gt0.true)

pub loop-i-preserved : goal.loop-i-preserved
loop-i-preserved g c =
    let reduce = g.R.Row.pair c.im_sum-imsum.result c.inv_dot-inv_dot_jj.result c.head-c_j.result in
    pair_turn reduce c.loop-i.i (length c.args.rows.now) c.loop-i.rows _ c.pair.result c.loop-i-test.true (omega (arith, length-set c.loop-j.rows c.loop-j.j c.head-c_j.result)) (c.pair.ensures ∙ ap reduce c.index-rows-i.is)
    ∙ c.loop-i.invariant

pub loop-j-preserved : goal.loop-j-preserved
loop-j-preserved g c =
    let t = g.R.Row in
    let group = group_of _ _ t.im_sum t.head t.is_lock t.inv_dot t.pair in
    let n = length c.args.rows.now in
    let imsum = c.im_sum-imsum.result in
    let row = c.head-c_j.result in
    let head = c.head-c_j.ensures ∙ ap (t.head imsum) c.index-rows-j.is in
    let inside : n ≤ length c.loop-j.rows = omega arith in (
      omega (arith, length-set c.loop-j.rows c.loop-j.j row),
      elim c.if-is_lock.branch [
        | then-is_lock+else-loop-i-test w ↦
            let pairs = map (t.pair imsum c.inv_dot-inv_dot_jj.result row) in
            let made = sym (between-end pairs refl w.loop-i.i n w.loop-i.rows w.loop-i-test.false) ∙ w.loop-i.invariant in
            rw w.rows-is (
            lock-row group imsum c.loop-j.j n c.loop-j.rows w.loop-i.rows _ row c.inv_dot-inv_dot_jj.result c.loop-j-test.true inside head (sym c.is_lock.ensures ∙ w.if-is_lock.true) c.inv_dot-inv_dot_jj.ensures made
            ∙ c.loop-j.invariant.1
            )
        | else-is_lock w ↦
            rw w.rows-is (
            free-turn (t.head imsum) t.is_lock (reduce_of group imsum) c.loop-j.j n c.loop-j.rows _ row c.loop-j-test.true inside head (sym c.is_lock.ensures ∙ w.if-is_lock.false)
            ∙ c.loop-j.invariant.1
            )
      ],
    )

pub returns-after-loop-j : goal.returns-after-loop-j
returns-after-loop-j g c =
    let t = g.R.Row in
    let group = group_of _ _ t.im_sum t.head t.is_lock t.inv_dot t.pair in
    sym (rest_end (t.head c.im_sum-imsum.result) t.is_lock (reduce_of group c.im_sum-imsum.result) c.loop-j.j (length c.args.rows.now) c.loop-j.rows c.loop-j-test.false) ∙ c.loop-j.invariant.1

pub returns-else-n-gt0 : goal.returns-else-n-gt0
returns-else-n-gt0 g c =
    let t = g.R.Row in
    none (group_of _ _ t.im_sum t.head t.is_lock t.inv_dot t.pair) c.args.rows.now c.if-n-gt0.false
