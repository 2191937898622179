use Prim.Native.Nat.{◌+◌}
use mathlib.Core.Path.{sym, ◌∙◌}
use native.Mathlib.Nat.{add-zero, sub-zero}
use borrow.Author.Rules.{rules}
use Rattle.multibody.specs.Finite.{passes}
use Rattle.multibody.specs.Finite.Asks.{finite}
use Rattle.multibody.proofs.AskLaws.{run-next, run-over}
use Rattle.multibody.proofs.refusals.finite_from.Goals as goal

pub loop-i-init : goal.loop-i-init
loop-i-init c = (search rules, rw (add-zero, sub-zero))

pub loop-i-preserved : goal.loop-i-preserved
unfolding passes
loop-i-preserved c =
    let l = c.loop-i in
    let a = c.args in
    (search rules, rw c.is_finite-finite.ensures (run-next finite a.s.now l.finite a.o a.n l.i c.loop-i-test.true) ∙ l.invariant.1)

pub returns : goal.returns
returns c =
    let l = c.loop-i in
    let a = c.args in
    sym (run-over finite a.s.now l.finite (a.o + l.i) a.n l.i c.loop-i-test.false) ∙ l.invariant.1
