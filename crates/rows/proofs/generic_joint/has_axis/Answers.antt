-- `has_axis` meets its contract. From axis 32 on no mask has a bit, since it is below 2 ^ 32.
use Prim.Native.Nat.{ℕ, ◌<◌, ◌≤◌, ◌^◌}
use mathlib.Core.Path.{◌≡◌, refl, sym, ◌∙◌}
use mathlib.Core.Bool.{false}
use native.Mathlib.Nat.{div-eq_of_lt, lt_of_lt_of_le}
use lib.Pow.{pow_mono}
use borrow.Author.Rules.{rules}
use borrow.Author.Tests.{le-ltb}
use Rattle.rows.specs.RowIds.{has_axis}
use Rattle.rows.proofs.generic_joint.has_axis.Goals as goal

no-axis : (mask axis : ℕ) → mask < 2 ^ 32 → 32 ≤ axis → has_axis mask axis ≡ false
unfolding has_axis
no-axis mask axis below from = rw (div-eq_of_lt {n = mask} {m = 2 ^ axis} (lt_of_lt_of_le below (pow_mono from)))

pub returns-else-axis-lt32 : goal.returns-else-axis-lt32
returns-else-axis-lt32 c = le-ltb _ _ c.if-axis-lt32.false ∙ sym (no-axis c.args.mask c.args.axis (search rules) c.if-axis-lt32.false)

pub returns-then-axis-lt32 : goal.returns-then-axis-lt32
unfolding has_axis
returns-then-axis-lt32 c = refl
