use native.Mathlib.Nat.{sub-zero}
use native.Mathlib.Omega.{arith}
use mathlib.Core.Path.{◌≡◌, sym, ◌∙◌}
use Prim.Native.Nat.{◌+◌, ◌-◌}
use lib.ListN.{length}
use Rattle.study_run.proofs.PlaceLaws.{skip-ends, skip-on, skip-done}
use Rattle.study_run.proofs.places.skip.Goals as goal

pub loop-line-init : goal.loop-line-init
loop-line-init c = rw sub-zero

pub returns-then-ends : goal.returns-then-ends
returns-then-ends c = c.next_line-at.ensures ∙ sym (skip-ends _ _ _ _ _ _ (omega (arith, c.loop-line-test.true)) c.act_at.ensures c.is_end-ends.ensures c.if-ends.true) ∙ c.loop-line.invariant

pub loop-line-preserved : goal.loop-line-preserved
loop-line-preserved c =
    let n = length c.args.text.now in
    let i = c.loop-line._line in
    let z : n - (i + 1) ≡ n - i - 1 = omega arith in
    rw (z, c.next_line-at.ensures) (sym (skip-on _ _ _ _ _ _ (omega (arith, c.loop-line-test.true)) c.act_at.ensures c.is_end-ends.ensures c.if-ends.false) ∙ c.loop-line.invariant)

pub returns : goal.returns
returns c = sym (skip-done _ _ _ _ _ _ (omega (arith, c.loop-line-test.false))) ∙ c.loop-line.invariant
