-- `micro_report::whole_or_over` meets its contract. A size below 2 ^ 31 is its own number as an `i32`, and so is its negative. Assumes nothing.
use Rattle.std.proofs.Common.{◌≡◌, ℕ, ◌^◌, ◌<◌, ℤ, pos, ◌-ℤ◌, neg_ℤ, sym, ap, ◌∙◌, subst, w32, SFits, to_z, le-leb}
use borrow.Author.Tests.{lt-leb}
use mir.ValLaws.{to_z_pos, to_z-of_z}
use Rattle.floats.specs.MicroReport.{whole_or_over}
use Rattle.floats.proofs.MicroReportLaws.{negated, negated_fits}
use Rattle.floats.proofs.micro_report.whole_or_over.Goals as goal

minus : (n : ℕ) → n < 2 ^ 31 → pos 0 -ℤ to_z w32 n ≡ neg_ℤ (pos n)
minus n h = ap (λ (z : ℤ). pos 0 -ℤ z) (to_z_pos w32 n h) ∙ negated n

pub returns-then-size-ge2147483648 : goal.returns-then-size-ge2147483648
unfolding whole_or_over
returns-then-size-ge2147483648 c = simp (le-leb _ _ c.if-size-ge2147483648.true)

pub overflow_sub-result : goal.overflow_sub-result
overflow_sub-result c = subst (SFits w32) (sym (minus c.args.size c.if-size-ge2147483648.false)) (negated_fits c.args.size c.if-size-ge2147483648.false)

pub returns-then-negative : goal.returns-then-negative
unfolding whole_or_over
returns-then-negative c =
    let n = c.args.size in
    simp (minus n c.if-size-ge2147483648.false, to_z-of_z w32 (neg_ℤ (pos n)) (negated_fits n c.if-size-ge2147483648.false), lt-leb _ _ c.if-size-ge2147483648.false, c.if-negative.true)

pub returns : goal.returns
unfolding whole_or_over
returns c = simp (to_z_pos w32 c.args.size c.if-size-ge2147483648.false, lt-leb _ _ c.if-size-ge2147483648.false, c.if-negative.false)
