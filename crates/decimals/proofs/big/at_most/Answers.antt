use mathlib.Core.Path.{sym}
use Prim.Native.Nat.{ℕ}
use native.Mathlib.Nat.{le_of_lt}
use native.Mathlib.Omega.{arith}
use borrow.Author.Rules.{rules}
use borrow.Author.Tests.{le-leb, lt-leb}
use mir.Syntax.{w32}
use mir.Val.{Fits}
use lib.ListN.{get_or}
use Rattle.decimals.proofs.LimbLaws.{limb-decides, limb-same, both-whole, whole_same}
use Rattle.decimals.proofs.big.at_most.Goals as goal
use Rattle.decimals.proofs.big.at_most.Goals.{Start}

limb-a : (c : Start) (j : ℕ) → Fits w32 (get_or c.args.a j 0)
limb-a c j = search rules

limb-b : (c : Start) (j : ℕ) → Fits w32 (get_or c.args.b j 0)
limb-b c j = search rules

pub loop-i-init : goal.loop-i-init
loop-i-init c = (search rules, search rules, search rules, both-whole c.args.a c.args.b 14 (search rules) (search rules))

pub returns-then-a-i : goal.returns-then-a-i
returns-then-a-i c =
    sym (le-leb _ _ (le_of_lt (limb-decides c.args.a c.args.b c.loop-i.i (omega arith) (omega arith) (omega arith) (λ j. (limb-a c.before.before.before j).fits) c.loop-i.invariant.3 c.if-a-i.true)))

pub returns-then-b-i : goal.returns-then-b-i
returns-then-b-i c =
    sym (lt-leb _ _ (limb-decides c.args.b c.args.a c.loop-i.i (omega arith) (omega arith) (omega arith) (λ j. (limb-b c.before.before.before.before j).fits) (sym c.loop-i.invariant.3) c.if-b-i.true))

pub loop-i-preserved : goal.loop-i-preserved
loop-i-preserved c =
    (search rules, search rules, search rules, limb-same c.args.a c.args.b c.loop-i.i (omega arith) (omega arith) (omega arith) c.loop-i.invariant.3 (omega arith))

pub returns : goal.returns
returns c = sym (le-leb _ _ (whole_same c.args.a c.args.b c.loop-i.i (omega arith) c.loop-i.invariant.3))
