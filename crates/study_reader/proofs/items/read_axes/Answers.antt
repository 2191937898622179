use borrow.Author.Tests.{lt-ltb, le-ltb}
use native.Mathlib.Omega.{arith}
use mathlib.Core.Path.{sym, ◌≡◌, ◌∙◌, refl}
use Prim.Native.Nat.{◌+◌, ◌-◌}
use Rattle.study_reader.proofs.ReadLaws.{axes-step, axes-done}
use Rattle.study_reader.proofs.items.read_axes.Goals as goal

pub loop-init : goal.loop-init
loop-init c = refl

pub returns-then-is_empty : goal.returns-then-is_empty
returns-then-is_empty c =
    sym (rw (← c.next_word-w.ensures, ← c.is_empty.ensures, c.if-is_empty.true) at (axes-step c.args.text.now c.args.place c.args.origin (3 - c.loop.counter) c.loop.mask c.loop.at (omega arith))) ∙ c.loop.invariant

pub returns-then-axis-gt2 : goal.returns-then-axis-gt2
returns-then-axis-gt2 c =
    sym (rw (← c.next_word-w.ensures, ← c.is_empty.ensures, c.if-is_empty.false, ← c.axis_of-axis.ensures, lt-ltb _ _ c.if-axis-gt2.true) at (axes-step c.args.text.now c.args.place c.args.origin (3 - c.loop.counter) c.loop.mask c.loop.at (omega arith))) ∙ c.loop.invariant

pub loop-preserved : goal.loop-preserved
loop-preserved c =
    let e : 3 - (c.loop.counter + 1) ≡ 3 - c.loop.counter - 1 = omega arith in
    rw (c.bit_of-mask.ensures, e) (sym (rw (← c.next_word-w.ensures, ← c.is_empty.ensures, c.if-is_empty.false, ← c.axis_of-axis.ensures, le-ltb _ _ c.if-axis-gt2.false) at (axes-step c.args.text.now c.args.place c.args.origin (3 - c.loop.counter) c.loop.mask c.loop.at (omega arith))) ∙ c.loop.invariant)

pub returns : goal.returns
returns c =
    c.whole.ensures ∙ (sym (axes-done c.args.text.now c.args.place c.args.origin (3 - c.loop.counter) c.loop.mask c.loop.at (omega arith)) ∙ c.loop.invariant)
