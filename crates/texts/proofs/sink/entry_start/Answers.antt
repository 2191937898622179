use Prim.Native.Nat.{ℕ, zero, ◌+◌, ◌<◌}
use mathlib.Core.Path.{refl, sym, ap, ◌∙◌}
use native.Mathlib.Omega.{arith}
use lib.ListN.{drop, length}
use Rattle.texts.specs.Sink.{entry}
use Rattle.texts.proofs.SinkLaws.{entry_past, entry-turn}
use Rattle.texts.proofs.sink.entry_start.Goals as goal

pub loop-k-init : goal.loop-k-init
loop-k-init c = refl

pub returns-then-left-eq0-clause-from : goal.returns-then-left-eq0-clause-from
returns-then-left-eq0-clause-from c = ap (λ (n : ℕ). entry n (drop c.loop-k.k c.args.table.now)) (sym c.if-left-eq0.true) ∙ c.loop-k.invariant

pub loop-k-preserved : goal.loop-k-preserved
loop-k-preserved c =
    let some : 0 < c.loop-k.left = omega (arith, c.if-left-eq0.false) in
    ap (λ (n : ℕ). entry n (drop (c.loop-k.k + 1) c.args.table.now)) c.left_after-left.ensures ∙ entry-turn c.args.table.now _ c.loop-k-test.true _ some ∙ c.loop-k.invariant

pub returns-clause-from : goal.returns-clause-from
returns-clause-from c = let table = c.args.table.now in entry_past zero table (length table) (omega arith) ∙ sym (entry_past _ _ _ c.loop-k-test.false) ∙ c.loop-k.invariant
