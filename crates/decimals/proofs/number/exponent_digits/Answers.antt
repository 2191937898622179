-- `exponent_digits` meets its contract: there are digits, and nothing after them.
use mathlib.Core.Path.{◌≡◌, ap, ◌∙◌}
use Prim.Native.Nat.{◌+◌}
use lib.ListN.{drop}
use Rattle.decimals.specs.Words.{digits_count, digits_value, decimal_read}
use Rattle.decimals.specs.declared.digits.Digits.{Digits}
use Rattle.decimals.proofs.ReadLaws.{exponent-cap}
use Rattle.decimals.proofs.WordLaws.{digits-none, digits_more, digits-all}
use Rattle.decimals.proofs.number.exponent_digits.Goals as goal
use Rattle.decimals.proofs.number.exponent_digits.Goals.{After-digits_at-digits}

ends : (c : After-digits_at-digits) → c.digits_at-digits.result.end ≡ c.args.at + digits_count (drop c.args.at c.args.word.now)
ends c = ap (λ (d : Digits). d.end) c.digits_at-digits.ensures

pub returns-then-end-at : goal.returns-then-end-at
returns-then-end-at c = digits-none _ _ _ _ _ _ _ c.requires.0 (ends (goal.at.returns-then-end-at c).After-digits_at-digits) c.if-end-at.true

pub returns-then-end-word : goal.returns-then-end-word
returns-then-end-word c = digits_more _ _ _ _ _ _ _ c.requires.0 (ends (goal.at.returns-then-end-word c).After-digits_at-digits) c.if-end-at.false c.if-end-word.true

pub returns : goal.returns
returns c =
    let a = c.args in
    c.decimal.ensures
    ∙ ap (λ (d : Digits). decimal_read a.negative a.w a.f a.down d.value) c.digits_at-digits.ensures
    ∙ exponent-cap a.negative a.w a.f a.down (digits_value 0 (drop a.at a.word.now)) c.requires.1
    ∙ digits-all _ _ _ _ _ _ _ c.requires.0 (ends (goal.at.returns c).After-digits_at-digits) c.if-end-at.false c.if-end-word.false
