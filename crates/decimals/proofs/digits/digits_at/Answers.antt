use mathlib.Core.Path.{◌≡◌, refl, sym, ap, ◌∙◌}
use mathlib.Core.Bool.{true, false}
use Prim.Native.Nat.{ℕ, ◌+◌, ◌-◌, ◌*◌}
use native.Mathlib.Omega.{arith}
use borrow.Author.Tests.{not-true, not-false}
use lib.ListN.{drop, get_or}
use Rattle.texts.specs.Digits.{is_digit}
use Rattle.decimals.specs.Words.{digits_value}
use Rattle.decimals.specs.Capped.{cap}
use Rattle.decimals.proofs.CapLaws.{cap-most, cap-le, digit-least, digit-most, digit-count, digit_value, stop-count, stop-value, end-count, end-value, digits_same}
use Rattle.decimals.proofs.digits.digits_at.Goals as goal
use Rattle.decimals.proofs.digits.digits_at.Goals.{Else-not-is_digit}

digit : (c : Else-not-is_digit) → is_digit (get_or c.args.word.now c.loop-i.i 0) ≡ true
digit c = sym c.is_digit.ensures ∙ not-false _ c.if-not-is_digit.false-raw

pub loop-i-init : goal.loop-i-init
loop-i-init c = (c.requires, refl, refl)

pub returns-then-not-is_digit : goal.returns-then-not-is_digit
returns-then-not-is_digit c =
    let none : is_digit (get_or c.args.word.now c.loop-i.i 0) ≡ false = sym c.is_digit.ensures ∙ not-true _ c.if-not-is_digit.true-raw in
    digits_same _ _ _ _
    (cap-most _ c.loop-i.invariant.0 ∙ ap cap (sym (stop-value c.args.word.now c.loop-i.i c.loop-i.value c.loop-i-test.true none)) ∙ c.loop-i.invariant.1)
    (sym (stop-count c.args.word.now c.loop-i.i 0 c.loop-i-test.true none) ∙ c.loop-i.invariant.2)

pub overflow_sub-b : goal.overflow_sub-b
overflow_sub-b c = digit-least _ (digit c)

pub overflow_cast-b : goal.overflow_cast-b
overflow_cast-b c = omega (arith, digit-most _ (digit c))

pub grown-value-requires : goal.grown-value-requires
grown-value-requires c = omega (arith, digit-least _ (digit c), digit-most _ (digit c))

pub loop-i-preserved : goal.loop-i-preserved
loop-i-preserved c = (
  omega (arith, c.grown-value.ensures, cap-le (c.loop-i.value * 10 + (get_or c.args.word.now c.loop-i.i 0 - 0x30))),
  ap (λ (x : ℕ). cap (digits_value x (drop (c.loop-i.i + 1) c.args.word.now))) c.grown-value.ensures
      ∙ digit_value c.args.word.now c.loop-i.i c.loop-i.value c.loop-i-test.true (digit (goal.at.loop-i-preserved c).Else-not-is_digit) ∙ c.loop-i.invariant.1,
  sym (digit-count c.args.word.now c.loop-i.i 0 c.loop-i-test.true (digit (goal.at.loop-i-preserved c).Else-not-is_digit)) ∙ c.loop-i.invariant.2,
)

pub returns : goal.returns
returns c =
    digits_same _ _ _ _
    (cap-most _ c.loop-i.invariant.0 ∙ ap cap (sym (end-value c.args.word.now c.loop-i.i c.loop-i.value c.loop-i-test.false)) ∙ c.loop-i.invariant.1)
    (sym (end-count c.args.word.now c.loop-i.i 0 c.loop-i-test.false) ∙ c.loop-i.invariant.2)
