use Prim.Native.Nat.{◌+◌, ◌*◌, ◌≤◌}
use mathlib.Core.Path.{◌≡◌, sym, ◌∙◌}
use native.Mathlib.Nat.{mul-le-mul_right}
use native.Mathlib.Omega.{arith}
use borrow.Author.Rules.{rules}
use Rattle.multibody.proofs.CountLaws.{rows_before-none, rows_before-next, one-more-fits}
use Rattle.multibody.proofs.counts.rows_before.Goals as goal

pub loop-i-init : goal.loop-i-init
loop-i-init g c = (search rules, sym (rows_before-none (g.K.Kind.system.store) _), omega arith)

more : (g : _) (c : goal.After-count_at-first g) → c.loop-i.first + c.count_at-first.result ≤ (c.loop-i.i + 1) * g.K.Kind.system.store.words_width
more g c = one-more-fits _ _ _ _ c.loop-i.invariant.2 (omega (arith, c.count_at-first.ensures.few, g.met.K.Kind.widths.few))

pub overflow_add-first : goal.overflow_add-first
overflow_add-first g c =
    let next : c.loop-i.i + 1 ≤ c.args.j = omega (arith, c.loop-i-test.true) in
    omega (arith, more g c, mul-le-mul_right (g.K.Kind.system.store.words_width) next, c.requires)

pub loop-i-preserved : goal.loop-i-preserved
loop-i-preserved g c =
    (search rules, cc (c.loop-i.invariant.1, c.count_at-first.ensures.value, rows_before-next (g.K.Kind.system.store) c.args.words.now c.loop-i.i), one-more-fits _ _ _ _ c.loop-i.invariant.2 (omega (arith, c.count_at-first.ensures.few, g.met.K.Kind.widths.few)))

pub returns : goal.returns
returns g c =
    let e : c.loop-i.i ≡ c.args.j = omega (arith, c.loop-i-test.false) in
    c.loop-i.invariant.1 ∙ rw e
