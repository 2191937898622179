-- The masks of a joint in space as they are read: they have no limit and no motor on an angular axis (`no-axis`) and couple nothing (`none-coupled`). Read twice they are the same (`spatial-twice`), and
-- masks that rules 3 and 17 let through are read as they are (`as-they-are`). Assumes nothing.
use Prim.Native.Nat.{ℕ, ◌%◌, ◌^◌, ◌≤◌, ◌<◌}
use native.Mathlib.Nat.{div-eq_of_lt, mod-lt, mod-eq_of_lt, pow-le-pow_right}
use native.Mathlib.Omega.{arith}
use mathlib.Core.Path.{◌≡◌, sym}
use mathlib.Core.Bool.{false}
use lib.Dec.{lit<}
use lib.Pow.{pow_pos}
use Rattle.rows.specs.RowIds.{has_axis}
use Rattle.rows.specs.declared.generic_joint.Masks.{Masks}
use Rattle.spatial_rows.specs.SpatialMasks.{spatial_masks}

eight : (i : ℕ) → 3 ≤ i → 8 ≤ 2 ^ i
eight i h = pow-le-pow_right {n = 2} (lit< tt) {i = 3} {j = i} h

-- three bits hold no axis from 3 on
pub no-axis : (x i : ℕ) → 3 ≤ i → has_axis (x % 8) i ≡ false
unfolding has_axis
no-axis x i h =
    let small : x % 8 < 2 ^ i = omega (arith, mod-lt x {m = 8} (lit< tt), eight i h) in
    rw (div-eq_of_lt small)

-- nothing is coupled
pub none-coupled : (i : ℕ) → has_axis 0 i ≡ false
unfolding has_axis
none-coupled i = rw (div-eq_of_lt (pow_pos i))

pub spatial-twice : (k : Masks) → spatial_masks (spatial_masks k) ≡ spatial_masks k
spatial-twice k =
    let locked : k.locked_axes % 64 % 64 ≡ k.locked_axes % 64 = omega arith in
    let limit : k.limit_axes % 8 % 8 ≡ k.limit_axes % 8 = omega arith in
    let motor : k.motor_axes % 8 % 8 ≡ k.motor_axes % 8 = omega arith in
    rw (locked, limit, motor)

pub as-they-are : (k : Masks) → k.locked_axes < 64 → k.limit_axes < 8 → k.motor_axes < 8 → k.coupled_axes ≡ 0 → spatial_masks k ≡ k
as-they-are k l t m c = λ i. record { locked_axes = mod-eq_of_lt l i; limit_axes = mod-eq_of_lt t i; motor_axes = mod-eq_of_lt m i; coupled_axes = sym c i }
