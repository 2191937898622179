-- `nearest` meets its contract: twice n beside the middle between the quotient and the next number says which of the two is nearer.
use mathlib.Core.Path.{sym, ◌∙◌}
use Prim.Native.Nat.{ℕ, ◌≤◌, ◌<◌, ◌+◌, ◌*◌}
use native.Mathlib.Nat.{le_antisymm}
use native.Mathlib.Omega.{arith}
use borrow.Author.Tests.{leb-true, leb-false}
use Rattle.decimals.specs.Limbs.{value}
use Rattle.decimals.proofs.RoundingLaws.{product-room, quotient-below, twice-room, smaller-room, nearest-below, nearest-tied, nearest-above}
use Rattle.decimals.proofs.rounding.nearest.Goals as goal
use Rattle.decimals.proofs.rounding.nearest.Goals.{After-at_most, After-quotient-q}

small : (c : After-quotient-q) → c.quotient-q.result < c.args.most
small c = quotient-below (value c.args.n) (value c.args.d) c.quotient-q.result c.args.most c.requires.0 c.requires.1 c.quotient-q.ensures

-- the two numbers compared are twice n and the middle
module _ (a : After-at_most) where
  abbrev n : ℕ
  n = value a.args.n

  abbrev m : ℕ
  m = value a.args.d * (2 * a.quotient-q.result + 1)

  under : value a.times-middle.result ≤ value a.times-twice.result → m ≤ n * 2
  under h = rw (a.times-middle.ensures, a.times-twice.ensures) at h

  over : value a.times-twice.result ≤ value a.times-middle.result → n * 2 ≤ m
  over h = rw (a.times-middle.ensures, a.times-twice.ensures) at h

  less : value a.times-middle.result < value a.times-twice.result → m < n * 2
  less h = rw (a.times-middle.ensures, a.times-twice.ensures) at h

  more : value a.times-twice.result < value a.times-middle.result → n * 2 < m
  more h = rw (a.times-middle.ensures, a.times-twice.ensures) at h

pub quotient-q-requires : goal.quotient-q-requires
quotient-q-requires c = (c.requires.1, smaller-room (value c.args.d) c.args.most _ c.requires.2, c.requires.3)

pub overflow_mul-q : goal.overflow_mul-q
overflow_mul-q c = omega (arith, small c)

pub overflow_add-q : goal.overflow_add-q
overflow_add-q c = omega (arith, small c)

pub times-middle-requires : goal.times-middle-requires
times-middle-requires c = product-room (value c.args.d) (2 * c.quotient-q.result + 1) _ (c.args.most * 2) (omega (arith, small c)) c.requires.2

pub times-twice-requires : goal.times-twice-requires
times-twice-requires c = twice-room (value c.args.n) (value c.args.d) c.args.most _ c.requires.1 c.requires.2

pub overflow_add-result : goal.overflow_add-result
overflow_add-result c = omega (arith, small (goal.at.overflow_add-result c).After-quotient-q)

pub returns-then-at_most-2 : goal.returns-then-at_most-2
returns-then-at_most-2 c =
    let a = (goal.at.returns-then-at_most-2 c).After-at_most in
    nearest-tied _ _ _ a.quotient-q.ensures
    (le_antisymm (over a (leb-true _ _ (sym c.at_most-then-at_most.ensures ∙ c.if-at_most-2.true))) (under a (leb-true _ _ (sym a.at_most.ensures ∙ c.if-at_most.true))))

pub overflow_add-result-then-at_most : goal.overflow_add-result-then-at_most
overflow_add-result-then-at_most c = omega (arith, small (goal.at.overflow_add-result-then-at_most c).After-quotient-q)

pub returns-then-at_most : goal.returns-then-at_most
returns-then-at_most c =
    let a = (goal.at.returns-then-at_most c).After-at_most in
    nearest-above _ _ _ a.quotient-q.ensures (less a (leb-false _ _ (sym c.at_most-then-at_most.ensures ∙ c.if-at_most-2.false)))

pub returns : goal.returns
returns c =
    let a = (goal.at.returns c).After-at_most in
    nearest-below _ _ _ a.quotient-q.ensures (more a (leb-false _ _ (sym a.at_most.ensures ∙ c.if-at_most.false)))
