-- `point_digits` meets its contract: the digits after the point go on with those before it.
use mathlib.Core.Path.{◌≡◌, ap, ◌∙◌}
use native.Mathlib.Omega.{arith}
use Prim.Native.Nat.{◌+◌, ◌-◌, ◌≤◌}
use lib.ListN.{length, drop}
use Rattle.decimals.specs.Words.{digits_count, digits_value, exponent_part}
use Rattle.decimals.specs.declared.digits.Digits.{Digits}
use Rattle.decimals.proofs.ReadLaws.{part-cap}
use Rattle.decimals.proofs.WordLaws.{count-inside, point-none, point-some}
use Rattle.decimals.proofs.number.point_digits.Goals as goal
use Rattle.decimals.proofs.number.point_digits.Goals.{After-digits_at-digits}

ends : (c : After-digits_at-digits) → c.digits_at-digits.result.end ≡ c.args.at + digits_count (drop c.args.at c.args.word.now)
ends c = ap (λ (d : Digits). d.end) c.digits_at-digits.ensures

inside : (c : After-digits_at-digits) → c.args.at + digits_count (drop c.args.at c.args.word.now) ≤ length c.args.word.now
inside c = count-inside c.args.word.now c.args.at c.requires.0

pub overflow_sub-f : goal.overflow_sub-f
overflow_sub-f c = omega (arith, ends c)

pub returns-then-n-f-eq0 : goal.returns-then-n-f-eq0
returns-then-n-f-eq0 c = point-none _ _ _ _ _ _ (ends (goal.at.returns-then-n-f-eq0 c).After-digits_at-digits) c.if-n-f-eq0.true

pub exponent_part-requires : goal.exponent_part-requires
exponent_part-requires c = (omega (arith, ends (goal.at.exponent_part-requires c).After-digits_at-digits, inside (goal.at.exponent_part-requires c).After-digits_at-digits), omega (arith, ends (goal.at.exponent_part-requires c).After-digits_at-digits, inside (goal.at.exponent_part-requires c).After-digits_at-digits, c.well_formed.0.1))

pub returns : goal.returns
returns c =
    let d = (goal.at.returns c).After-digits_at-digits in
    let a = d.args in
    c.exponent_part.ensures
    ∙ ap (λ (x : Digits). exponent_part a.negative x.value (d.digits_at-digits.result.end - a.at) (drop d.digits_at-digits.result.end a.word.now)) d.digits_at-digits.ensures
    ∙ part-cap a.negative (digits_value a.w (drop a.at a.word.now)) _ _
    ∙ point-some _ _ _ _ _ _ (ends d) c.if-n-f-eq0.false
