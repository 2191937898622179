use native.Mathlib.Omega.{arith}
use native.Mathlib.Nat.{sub-zero}
use mathlib.Core.Path.{sym, ◌≡◌, ◌∙◌, refl}
use Prim.Native.Nat.{◌+◌, ◌-◌}
use lib.ListN.{length}
use borrow.Author.Tests.{le-leb}
use Rattle.study_reader.specs.Study.{line_read}
use Rattle.study_reader.proofs.ReadLaws.{lines_step, lines-done, lines-over}
use Rattle.study_reader.proofs.read.read_lines.Goals as goal

pub loop-init : goal.loop-init
loop-init c = (refl, refl, refl, refl, rw (c.start-st.ensures, sub-zero))

pub loop-preserved : goal.loop-preserved
loop-preserved c =
    let n = length c.args.text.now in
    let e : n - (c.loop.counter + 1) ≡ n - c.loop.counter - 1 = omega arith in (
      c.next_state-st.auto.numbers ∙ c.loop.invariant.0,
      c.next_state-st.auto.origins ∙ c.loop.invariant.1,
      c.next_state-st.auto.words ∙ c.loop.invariant.2,
      c.next_state-st.auto.names ∙ c.loop.invariant.3,
      rw (c.next_state-st.ensures, e) (sym (lines_step c.args.text.now (n - c.loop.counter) _ (omega arith)) ∙ c.loop.invariant.4),
    )

pub returns-then-is_some : goal.returns-then-is_some
unfolding line_read
returns-then-is_some c =
    sym (lines-over _ (length c.args.text.now - c.loop.counter) _ (rw (← c.is_some.ensures, c.if-is_some.true))) ∙ c.loop.invariant.4

pub returns-then-text-st : goal.returns-then-text-st
unfolding line_read
returns-then-text-st c =
    sym (lines-over _ (length c.args.text.now - c.loop.counter) _ (rw (← c.is_some.ensures, c.if-is_some.false, le-leb _ _ c.if-text-st.true)))
    ∙ c.loop.invariant.4

pub returns : goal.returns
returns c =
    sym (lines-done c.args.text.now (length c.args.text.now - c.loop.counter) _ (omega arith)) ∙ c.loop.invariant.4
