-- The twelve slots of a joint in space: their ids are `row_ids 3 3` of its masks (`slot-ids`), as many as bits are set (`slots-count`), and those of the three lowest are its motors
-- (`motors-are`). Assumes nothing.
use Prim.Native.Nat.{ℕ, ◌-◌, ◌/◌, ◌%◌, ◌^◌, ◌<◌}
use native.Mathlib.Omega.{arith}
use mathlib.Core.Path.{◌≡◌, refl, ap, ap₂, sym, ◌∙◌}
use mathlib.Core.Bool.{Bool, true, false, not, cond, ◌&&◌}
use mathlib.Core.List.{List, [], ◌∷◌, ◌++◌, map, append_assoc, append-nil}
use lib.Bits.{bit_and}
use lib.Count.{ones}
use lib.Dec.{T, eqb, eqb→eq}
use lib.ListN.{length, take, length-map}
use Rattle.rows.specs.RowIds.{has_axis, is_locked, is_motor, is_limit, keep, group_one, limit_ids, row_ids, in_order}
use Rattle.rows.specs.RowSlots.{bits_of}
use Rattle.rows.specs.declared.generic_joint.Masks.{Masks}
use Rattle.rows.specs.declared.joint_velocity_constraint.WritebackId.{WritebackId}
use Rattle.rows.specs.declared.joint_velocity_constraint.WritebackId.TheVariants.{Dof, Limit, Motor}
use Rattle.rows.proofs.MaskBits.{below, at}
use Rattle.rows.proofs.RowSlotsLaws.{slots_from, places, places-slots, bits-lt, pieces, map-places, ones-places}
use Rattle.spatial_rows.specs.SpatialMasks.{spatial_masks}
use Rattle.spatial_rows.specs.RowSlots.{slot_id, linear_axes, angular_axes, slots, slot_bits}
use Rattle.spatial_rows.proofs.SpatialMasksLaws.{no-axis, none-coupled}

-- ---- the ids of tests, axis by axis

-- what g makes of the axes that pass a test, one list each
abbrev spread : (ℕ → WritebackId) → (ℕ → Bool) → List ℕ → List WritebackId
spread g p [] = []
spread g p (i ∷ is) = cond (p i) (g i ∷ []) [] ++ spread g p is

map-cond : (g : ℕ → WritebackId) (i : ℕ) (b : Bool) (l : List ℕ) → map g (cond b (i ∷ l) l) ≡ cond b (g i ∷ []) [] ++ map g l
map-cond g i true l = refl
map-cond g i false l = refl

map-keep : (g : ℕ → WritebackId) (p : ℕ → Bool) (is : List ℕ) → map g (keep p is) ≡ spread g p is
map-keep g p [] = refl
map-keep g p (i ∷ is) = map-cond g i (p i) (keep p is) ∙ ap (λ t. cond (p i) (g i ∷ []) [] ++ t) (map-keep g p is)

and-true : (b : Bool) → b && true ≡ b
and-true true = refl
and-true false = refl

and-false : (b : Bool) → b && false ≡ false
and-false true = refl
and-false false = refl

-- the linear axes that pass a test which no angular axis passes and which is about no coupled axis
linear : (g : ℕ → WritebackId) (x l : ℕ) → map g (keep (λ i. (has_axis (x % 8) i && not (has_axis l i)) && not (has_axis 0 i)) (in_order 3 3)) ≡ spread g (λ i. has_axis (x % 8) i && not (has_axis l i)) (0 ∷ 1 ∷ 2 ∷ [])
linear g x l =
    map-keep g (λ i. (has_axis (x % 8) i && not (has_axis l i)) && not (has_axis 0 i)) (in_order 3 3)
    ∙ rw (no-axis x 3 (omega arith), no-axis x 4 (omega arith), no-axis x 5 (omega arith)) (simp (none-coupled, and-true))

-- ---- a joint's slots

module _ (k : Masks) where
  abbrev s : Masks
  s = spatial_masks k

  -- what the slots of each kind name
  motors : spread Motor (is_motor s) (0 ∷ 1 ∷ 2 ∷ []) ≡ group_one 3 3 s
  motors = sym (ap₂ ◌++◌ (linear Motor k.motor_axes (k.locked_axes % 64)) (simp (none-coupled, and-false)) ∙ append-nil _)

  limits : spread Limit (is_limit s) (0 ∷ 1 ∷ 2 ∷ []) ≡ limit_ids 3 3 s
  limits = sym (ap₂ ◌++◌ (linear Limit k.limit_axes (k.locked_axes % 64)) (simp none-coupled) ∙ append-nil _)

  -- the slots' lists, as the two groups have them
  joined : spread Motor (is_motor s) (0 ∷ 1 ∷ 2 ∷ []) ++ (spread Dof (is_locked s) (in_order 3 3) ++ spread Limit (is_limit s) (0 ∷ 1 ∷ 2 ∷ [])) ≡ pieces slot_id 0 (slots k)
  unfolding slot_id
  joined = simp append_assoc

  placed : map slot_id (places 0 (slots k)) ≡ row_ids 3 3 s
  unfolding row_ids slot_id
  placed =
      map-places slot_id (slots k) 0
      ∙ sym joined
      ∙ ap₂ ◌++◌ motors (ap₂ ◌++◌ (sym (map-keep Dof (is_locked s) (in_order 3 3))) limits)

  motors-placed : map slot_id (places 0 (take 3 (slots k))) ≡ group_one 3 3 s
  unfolding slot_id
  motors-placed = map-places slot_id (take 3 (slots k)) 0 ∙ motors

  -- the ids of a joint's slots are its ids
  pub slot-ids : map slot_id (slots_from 12 0 (slot_bits k)) ≡ row_ids 3 3 s
  unfolding slot_bits
  slot-ids = ap (map slot_id) (places-slots (slots k) 0) ∙ placed

  pub slot_bits-lt : slot_bits k < 4096
  unfolding slot_bits
  slot_bits-lt = bits-lt (slots k)

  -- there are as many as slots
  pub slots-count : ones (slot_bits k) ≡ length (row_ids 3 3 s)
  unfolding slot_bits
  slots-count = ones-places (slots k) 0 ∙ sym (length-map (places 0 (slots k)) slot_id) ∙ ap length placed

  low-three : slot_bits k % 8 ≡ bits_of (take 3 (slots k))
  unfolding slot_bits
  low-three = omega (arith, bits-lt (take 3 (slots k)))

  -- the motors are the three lowest slots'
  pub motors-are : {n : ℕ} → n ≡ slot_bits k → ones (n % 8) ≡ length (group_one 3 3 s)
  motors-are e =
      ap (λ n. ones (n % 8)) e ∙ ap ones low-three
      ∙ ones-places (take 3 (slots k)) 0
      ∙ sym (length-map (places 0 (take 3 (slots k))) slot_id)
      ∙ ap length motors-placed

-- ---- the functions of row_ids.rt

-- a mask below 8 is its own bits
own_right : ℕ → Bool
own_right m = eqb m (bits_of (linear_axes (λ i. has_axis m i)))

all_own : T (below 8 own_right)
unfolding own_right has_axis
all_own = tt

own : (m : ℕ) → m < 8 → m ≡ bits_of (linear_axes (λ i. has_axis m i))
unfolding own_right
own m h = eqb→eq m (bits_of (linear_axes (λ i. has_axis m i))) (at 8 own_right all_own m h)

same-axis : (x y i j : ℕ) → x / 2 ^ i % 2 ≡ y / 2 ^ j % 2 → has_axis x i ≡ has_axis y j
unfolding has_axis
same-axis x y i j e = ap (λ t. eqb t 1) e

pub linear-locks : (l : ℕ) → l % 8 ≡ bits_of (linear_axes (λ i. has_axis (l % 64) i))
linear-locks l =
    rw (same-axis (l % 64) (l % 8) 0 0 (omega arith), same-axis (l % 64) (l % 8) 1 1 (omega arith), same-axis (l % 64) (l % 8) 2 2 (omega arith)) (own (l % 8) (omega arith))

pub angular-locks : (l : ℕ) → l % 64 / 8 ≡ bits_of (angular_axes (λ i. has_axis (l % 64) i))
angular-locks l =
    rw (same-axis (l % 64) (l % 64 / 8) 3 0 (omega arith), same-axis (l % 64) (l % 64 / 8) 4 1 (omega arith), same-axis (l % 64) (l % 64 / 8) 5 2 (omega arith)) (own (l % 64 / 8) (omega arith))

-- m without the axes of l
abbrev without : ℕ → ℕ → ℕ
without m l = bit_and m (4294967295 - l)

unlocked_right : ℕ → ℕ → Bool
unlocked_right m l = eqb (without m l) (bits_of (linear_axes (λ i. has_axis m i && not (has_axis l i))))

all-unlocked : T (below 8 (λ m. below 8 (λ l. unlocked_right m l)))
unfolding unlocked_right has_axis
all-unlocked = tt

unlocked-low : (m l : ℕ) → m < 8 → l < 8 → without m l ≡ bits_of (linear_axes (λ i. has_axis m i && not (has_axis l i)))
unfolding unlocked_right
unlocked-low m l hm hl =
    eqb→eq (without m l) (bits_of (linear_axes (λ i. has_axis m i && not (has_axis l i))))
    (at 8 (λ l. unlocked_right m l) (at 8 (λ m. below 8 (λ l. unlocked_right m l)) all-unlocked m hm) l hl)

pub unlocked-is : (m l : ℕ) → without (m % 8) (l % 8) ≡ bits_of (linear_axes (λ i. has_axis (m % 8) i && not (has_axis (l % 64) i)))
unlocked-is m l =
    rw (same-axis (l % 64) (l % 8) 0 0 (omega arith), same-axis (l % 64) (l % 8) 1 1 (omega arith), same-axis (l % 64) (l % 8) 2 2 (omega arith))
    (unlocked-low (m % 8) (l % 8) (omega arith) (omega arith))

pub unlocked-lt : (m l : ℕ) → without (m % 8) (l % 8) < 8
unlocked-lt m l = rw (unlocked-is m l) (bits-lt (linear_axes (λ i. has_axis (m % 8) i && not (has_axis (l % 64) i))))
