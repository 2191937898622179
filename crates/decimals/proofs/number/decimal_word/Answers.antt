-- `decimal_word` meets its contract: digits, then a point or none.
use mathlib.Core.Path.{◌≡◌, ap, ◌∙◌}
use native.Mathlib.Omega.{arith}
use Prim.Native.Nat.{ℕ, ◌+◌, ◌-◌, ◌≤◌}
use lib.ListN.{length, drop}
use Rattle.decimals.specs.Words.{digits_count, digits_value, point_digits, no_point}
use Rattle.decimals.specs.declared.digits.Digits.{Digits}
use Rattle.decimals.specs.Capped.{cap}
use Rattle.decimals.proofs.CapLaws.{cap-le}
use Rattle.decimals.proofs.ReadLaws.{point-cap, no-point-cap}
use Rattle.decimals.proofs.WordLaws.{count-inside, has-point, has-none, has_end}
use Rattle.decimals.proofs.number.decimal_word.Goals as goal
use Rattle.decimals.proofs.number.decimal_word.Goals.{After-digits_at-digits}

ends : (c : After-digits_at-digits) → c.digits_at-digits.result.end ≡ c.args.at + digits_count (drop c.args.at c.args.word.now)
ends c = ap (λ (d : Digits). d.end) c.digits_at-digits.ensures

spelled : (c : After-digits_at-digits) → c.digits_at-digits.result.value ≡ cap (digits_value 0 (drop c.args.at c.args.word.now))
spelled c = ap (λ (d : Digits). d.value) c.digits_at-digits.ensures

inside : (c : After-digits_at-digits) → c.args.at + digits_count (drop c.args.at c.args.word.now) ≤ length c.args.word.now
inside c = count-inside c.args.word.now c.args.at c.requires

pub overflow_sub-n : goal.overflow_sub-n
overflow_sub-n c = omega (arith, ends c)

pub point_digits-requires : goal.point_digits-requires
point_digits-requires c = (omega (arith, c.if-end-word.true), omega (arith, ends (goal.at.point_digits-requires c).After-digits_at-digits), omega (arith, spelled (goal.at.point_digits-requires c).After-digits_at-digits, cap-le (digits_value 0 (drop c.args.at c.args.word.now))))

pub returns-then-word-end-eq46 : goal.returns-then-word-end-eq46
returns-then-word-end-eq46 c =
    let d = (goal.at.returns-then-word-end-eq46 c).After-digits_at-digits in
    let a = d.args in
    c.point_digits.ensures
    ∙ ap (λ (x : ℕ). point_digits a.negative (d.digits_at-digits.result.end - a.at) x (drop (d.digits_at-digits.result.end + 1) a.word.now)) (spelled d)
    ∙ point-cap a.negative (d.digits_at-digits.result.end - a.at) (digits_value 0 (drop a.at a.word.now)) (drop (d.digits_at-digits.result.end + 1) a.word.now)
    ∙ has-point _ _ _ _ (ends d) c.if-end-word.true c.if-word-end-eq46.true

pub returns-then-end-word : goal.returns-then-end-word
returns-then-end-word c =
    let d = (goal.at.returns-then-end-word c).After-digits_at-digits in
    let a = d.args in
    c.no_point.ensures
    ∙ ap (λ (x : ℕ). no_point a.negative (d.digits_at-digits.result.end - a.at) x (drop d.digits_at-digits.result.end a.word.now)) (spelled d)
    ∙ no-point-cap a.negative (d.digits_at-digits.result.end - a.at) (digits_value 0 (drop a.at a.word.now)) (drop d.digits_at-digits.result.end a.word.now)
    ∙ has-none _ _ _ _ (ends d) c.if-end-word.true c.if-word-end-eq46.false

pub no_point-requires-2 : goal.no_point-requires-2
no_point-requires-2 c = omega (arith, ends (goal.at.no_point-requires-2 c).After-digits_at-digits, inside (goal.at.no_point-requires-2 c).After-digits_at-digits)

pub returns : goal.returns
returns c =
    let d = (goal.at.returns c).After-digits_at-digits in
    let a = d.args in
    c.no_point-2.ensures
    ∙ ap (λ (x : ℕ). no_point a.negative (d.digits_at-digits.result.end - a.at) x (drop d.digits_at-digits.result.end a.word.now)) (spelled d)
    ∙ no-point-cap a.negative (d.digits_at-digits.result.end - a.at) (digits_value 0 (drop a.at a.word.now)) (drop d.digits_at-digits.result.end a.word.now)
    ∙ has_end _ _ _ _ (ends d) c.if-end-word.false
