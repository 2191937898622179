-- Slots: the bits of a number as a list of slots, however many (`slots_from`), of which the lowest is found by trailing zeros (`lowest-slot`); and the eleven slots
-- of a planar joint, whose ids are `row_ids` (`slot-ids`), as many as bits are set (`slots-count`). Assumes nothing.
use Prim.Native.Nat.{ℕ, zero, suc, ◌+◌, ◌-◌, ◌*◌, ◌/◌, ◌%◌, ◌^◌, ◌≤◌, ◌<◌}
use native.Mathlib.Nat.{not-suc-le-zero, le_of_suc-le-suc, pow-suc}
use native.Mathlib.Omega.{arith}
use mathlib.Core.Path.{◌≡◌, refl, ap, ap₂, sym, ◌∙◌}
use mathlib.Core.Bool.{Bool, true, false, not, cond, ◌&&◌}
use mathlib.Core.Logic.{◌⊎◌, inl, inr}
use mathlib.Core.List.{List, [], ◌∷◌, ◌++◌, map, append_assoc, append-nil}
use lib.Bits.{bit_and, and_step, and_self, and_le_r}
use lib.Count.{count_trailing_zeros, ones, ones_step, ones-le}
use lib.Dec.{T, eqb, ltb, eqb→eq}
use lib.ListN.{length, take, length-map}
use Rattle.rows.specs.declared.generic_joint.Masks.{Masks}
use Rattle.rows.specs.declared.joint_velocity_constraint.WritebackId.{WritebackId}
use Rattle.rows.specs.declared.joint_velocity_constraint.WritebackId.TheVariants.{Dof, Limit, Motor}
use Rattle.rows.specs.RowIds.{has_axis, is_locked, is_motor, is_limit, is_coupled, some, first_coupled, shares_linear, group_one, limit_ids, row_ids}
use Rattle.rows.specs.RowSlots.{slot_axis, slot_id, bits_of, at_axes, slots, slot_bits}
use Rattle.rows.proofs.MaskBits.{first-coupled, below, at, low8-0, low8-1, low8-2, without}
use Rattle.rows.proofs.RowIdsCount.{bit}
use Rattle.rows.proofs.CoupledIds.{split, coupled-motor, coupled-limit}

-- ---- the slots of a number

-- the slots that n bits of b name, from slot s on
abbrev pub slots_from : ℕ → ℕ → ℕ → List ℕ
slots_from zero s b = []
slots_from (suc n) s b = cond (eqb (b % 2) 1) (s ∷ slots_from n (suc s) (b / 2)) (slots_from n (suc s) (b / 2))

-- an odd number and an even one
slots-odd : (n s b : ℕ) → b % 2 ≡ 1 → slots_from (suc n) s b ≡ s ∷ slots_from n (suc s) (b / 2)
slots-odd n s b e = rw e

slots-even : (n s b : ℕ) → b % 2 ≡ 0 → slots_from (suc n) s b ≡ slots_from n (suc s) (b / 2)
slots-even n s b e = rw e

parity : (b : ℕ) → (b % 2 ≡ 0) ⊎ (b % 2 ≡ 1)
parity b = at (b % 2) (omega arith)
  where
    at : (r : ℕ) → r < 2 → (r ≡ 0) ⊎ (r ≡ 1)
    at zero h = inl refl
    at (suc zero) h = inr refl
    at (suc (suc r)) h = absurd (omega arith)

-- a number without its lowest bit
clear-odd : (b : ℕ) → b % 2 ≡ 1 → bit_and b (b - 1) ≡ b - 1
clear-odd b e =
    let h : (b - 1) / 2 ≡ b / 2 = omega (arith, e) in
    let z : (b - 1) % 2 ≡ 0 = omega (arith, e) in
    and_step b (b - 1) ∙ rw (h, z, e, and_self (b / 2)) (omega (arith, e))

clear-even : (b : ℕ) → 0 < b → b % 2 ≡ 0 → bit_and b (b - 1) ≡ bit_and (b / 2) (b / 2 - 1) * 2
clear-even b g e =
    let h : (b - 1) / 2 ≡ b / 2 - 1 = omega (arith, e) in
    let z : (b - 1) % 2 ≡ 1 = omega (arith, e) in
    and_step b (b - 1) ∙ rw (h, z, e) (omega arith)

-- the lowest slot of a number with k or fewer bits, from that of its half
abbrev Lowest : ℕ → ℕ → ℕ → ℕ → Type 0
Lowest n k s b = slots_from n s b ≡ (s + count_trailing_zeros k b) ∷ slots_from n s (bit_and b (b - 1))

lowest-half : (n k s b : ℕ) → 0 < b → (0 < b / 2 → Lowest n k (suc s) (b / 2)) → (b % 2 ≡ 0) ⊎ (b % 2 ≡ 1) → Lowest (suc n) (suc k) s b
unfolding count_trailing_zeros
lowest-half n k s b g half (inr e) =
    let h : (b - 1) / 2 ≡ b / 2 = omega (arith, e) in
    let z : (b - 1) % 2 ≡ 0 = omega (arith, e) in
    slots-odd n s b e ∙ sym (rw (clear-odd b e, slots-even n s (b - 1) z, h, e) (ap (λ t. t ∷ slots_from n (suc s) (b / 2)) (omega arith)))
lowest-half n k s b g half (inl e) =
    let x : ℕ = bit_and (b / 2) (b / 2 - 1) in
    let twice : x * 2 / 2 ≡ x = omega arith in
    let z : x * 2 % 2 ≡ 0 = omega arith in
    slots-even n s b e ∙ half (omega (arith, e))
    ∙ sym (rw (clear-even b g e, slots-even n s (x * 2) z, twice, e) (ap (λ t. t ∷ slots_from n (suc s) x) (omega arith)))

lowest-from : (n k s b : ℕ) → 0 < b → b < 2 ^ n → n ≤ k → Lowest n k s b
lowest-from zero k s b g h l = absurd (omega arith)
lowest-from (suc n) zero s b g h l = absurd (not-suc-le-zero l)
lowest-from (suc n) (suc k) s b g h l =
    lowest-half n k s b g (λ p. lowest-from n k (suc s) (b / 2) p (omega (arith, h, pow-suc 2 n)) (le_of_suc-le-suc l)) (parity b)

-- the lowest slot of a number of n bits, and the slots that are left without it
pub lowest-slot : (n b : ℕ) → n ≤ 32 → 0 < b → b < 2 ^ n → slots_from n 0 b ≡ count_trailing_zeros 32 b ∷ slots_from n 0 (bit_and b (b - 1))
lowest-slot n b l g h = lowest-from n 32 0 b g h l ∙ ap (λ t. t ∷ slots_from n 0 (bit_and b (b - 1))) (omega arith)

-- without its lowest bit a number is less
pub cleared-less : (b : ℕ) → 0 < b → bit_and b (b - 1) < b
cleared-less b g = omega (arith, and_le_r b (b - 1))

-- ---- the slots of answers

-- the places of a list at which it answers yes, from place s on
abbrev pub places : ℕ → List Bool → List ℕ
places s [] = []
places s (b ∷ bs) = cond b (s ∷ places (suc s) bs) (places (suc s) bs)

low_bit : (b : Bool) (v : ℕ) → eqb ((cond b 1 0 + 2 * v) % 2) 1 ≡ b
low_bit true v = let e : (1 + 2 * v) % 2 ≡ 1 = omega arith in rw e
low_bit false v = let e : (0 + 2 * v) % 2 ≡ 0 = omega arith in rw e

high_bits : (b : Bool) (v : ℕ) → (cond b 1 0 + 2 * v) / 2 ≡ v
high_bits true v = omega arith
high_bits false v = omega arith

pub places-slots : (bs : List Bool) (s : ℕ) → slots_from (length bs) s (bits_of bs) ≡ places s bs
places-slots [] s = refl
places-slots (b ∷ bs) s = rw (low_bit b (bits_of bs), high_bits b (bits_of bs), places-slots bs (suc s))

pub bits-lt : (bs : List Bool) → bits_of bs < 2 ^ length bs
bits-lt [] = omega arith
bits-lt (true ∷ bs) = omega (arith, bits-lt bs, pow-suc 2 (length bs))
bits-lt (false ∷ bs) = omega (arith, bits-lt bs, pow-suc 2 (length bs))

-- what g makes of the places, one list each
abbrev pub pieces : {A : Type 0} → (ℕ → A) → ℕ → List Bool → List A
pieces g s [] = []
pieces g s (b ∷ bs) = cond b (g s ∷ []) [] ++ pieces g (suc s) bs

map-cond : {A : Type 0} (g : ℕ → A) (s : ℕ) (b : Bool) (l : List ℕ) → map g (cond b (s ∷ l) l) ≡ cond b (g s ∷ []) [] ++ map g l
map-cond g s true l = refl
map-cond g s false l = refl

pub map-places : {A : Type 0} (g : ℕ → A) (bs : List Bool) (s : ℕ) → map g (places s bs) ≡ pieces g s bs
map-places g [] s = refl
map-places g (b ∷ bs) s = map-cond g s b (places (suc s) bs) ∙ ap (λ t. cond b (g s ∷ []) [] ++ t) (map-places g bs (suc s))

-- eleven lists, as the two groups have them
grouped : {A : Type 0} (a b c d e f g h i j k : List A)
    → a ++ (b ++ (c ++ (d ++ (e ++ (f ++ (g ++ (h ++ (i ++ (j ++ (k ++ []))))))))))
    ≡ ((a ++ (b ++ c)) ++ d) ++ ((e ++ (f ++ g)) ++ ((h ++ (i ++ j)) ++ k))
grouped a b c d e f g h i j k = simp (append_assoc, append-nil)

four : {A : Type 0} (a b c d : List A) → a ++ (b ++ (c ++ (d ++ []))) ≡ (a ++ (b ++ c)) ++ d
four a b c d = simp (append_assoc, append-nil)

-- how many places answer yes
pub ones-places : (bs : List Bool) (s : ℕ) → ones (bits_of bs) ≡ length (places s bs)
unfolding ones
ones-places [] s = refl
ones-places (true ∷ bs) s =
    let n : ℕ = 1 + 2 * bits_of bs in
    omega (arith, ones_step n, ap ones (high_bits true (bits_of bs)), ones-places bs (suc s))
ones-places (false ∷ bs) s =
    let n : ℕ = 0 + 2 * bits_of bs in
    omega (arith, ones_step n, ap ones (high_bits false (bits_of bs)), ones-places bs (suc s))

-- the four lowest bits
low-four : (a b c d : Bool) (v : ℕ) → (bit a + 2 * (bit b + 2 * (bit c + 2 * (bit d + 2 * v)))) % 16 ≡ bits_of (a ∷ b ∷ c ∷ d ∷ [])
low-four a b c d v = omega (arith, bits-lt (a ∷ b ∷ c ∷ d ∷ []))

-- ---- a joint's slots

-- those of motors
abbrev motor_slots : Masks → List Bool
motor_slots k = take 4 (slots k)

pub slot_bits-lt : (k : Masks) → slot_bits k < 2048
unfolding slot_bits
slot_bits-lt k = bits-lt (slots k)

abbrev one : (ℕ → WritebackId) → (ℕ → Bool) → ℕ → List WritebackId
one g p i = cond (p i) (g i ∷ []) []

module _ (k : Masks) (f : ℕ) (e : first_coupled 2 k ≡ cond (ltb f 2) (f ∷ []) []) where
  abbrev m : ℕ → Bool
  m i = is_motor k i && not (is_coupled k i)

  abbrev t : ℕ → Bool
  t i = is_limit k i && not (is_coupled k i)

  abbrev l : ℕ → Bool
  l = is_locked k

  -- what the slots of each kind name
  motors : (one Motor m 2 ++ (one Motor m 0 ++ one Motor m 1)) ++ cond (shares_linear 2 k) (Motor f ∷ []) [] ≡ group_one 2 1 k
  motors = ap₂ ◌++◌ (split Motor (m 2) (m 0) (m 1)) (coupled-motor k f e)

  limits : (one Limit t 2 ++ (one Limit t 0 ++ one Limit t 1)) ++ cond (some (is_limit k) (first_coupled 2 k)) (Limit f ∷ []) [] ≡ limit_ids 2 1 k
  limits = ap₂ ◌++◌ (split Limit (t 2) (t 0) (t 1)) (coupled-limit k f e)

  placed : map (λ s. slot_id s f) (places 0 (slots k)) ≡ row_ids 2 1 k
  unfolding row_ids slot_id slot_axis
  placed =
      map-places (λ s. slot_id s f) (slots k) 0
      ∙ grouped (one Motor m 2) (one Motor m 0) (one Motor m 1) (cond (shares_linear 2 k) (Motor f ∷ []) [])
      (one Dof l 2) (one Dof l 0) (one Dof l 1)
      (one Limit t 2) (one Limit t 0) (one Limit t 1) (cond (some (is_limit k) (first_coupled 2 k)) (Limit f ∷ []) [])
      ∙ ap₂ ◌++◌ motors (ap₂ ◌++◌ (split Dof (l 2) (l 0) (l 1)) limits)

  motors-placed : map (λ s. slot_id s f) (places 0 (motor_slots k)) ≡ group_one 2 1 k
  unfolding slot_id slot_axis
  motors-placed =
      map-places (λ s. slot_id s f) (motor_slots k) 0
      ∙ four (one Motor m 2) (one Motor m 0) (one Motor m 1) (cond (shares_linear 2 k) (Motor f ∷ []) [])
      ∙ motors

  -- the ids of a joint's slots are its ids
  pub slot-ids : map (λ s. slot_id s f) (slots_from 11 0 (slot_bits k)) ≡ row_ids 2 1 k
  unfolding slot_bits
  slot-ids = ap (map (λ s. slot_id s f)) (places-slots (slots k) 0) ∙ placed

-- there are as many as slots, and the motors are the four lowest slots'
pub slots-count : (k : Masks) → ones (slot_bits k) ≡ length (row_ids 2 1 k)
unfolding slot_bits
slots-count k =
    let f = count_trailing_zeros 32 (bit_and k.coupled_axes 3) in
    ones-places (slots k) 0 ∙ sym (length-map (places 0 (slots k)) (λ s. slot_id s f)) ∙ ap length (placed k f (first-coupled k.coupled_axes))

pub motors-count : (k : Masks) → ones (slot_bits k % 16) ≡ length (group_one 2 1 k)
unfolding slot_bits
motors-count k =
    let f = count_trailing_zeros 32 (bit_and k.coupled_axes 3) in
    ap ones (low-four (is_motor k 2 && not (is_coupled k 2)) (is_motor k 0 && not (is_coupled k 0)) (is_motor k 1 && not (is_coupled k 1)) (shares_linear 2 k) _)
    ∙ ones-places (motor_slots k) 0
    ∙ sym (length-map (places 0 (motor_slots k)) (λ s. slot_id s f))
    ∙ ap length (motors-placed k f (first-coupled k.coupled_axes))

pub motors-are : (k : Masks) {slots : ℕ} → slots ≡ slot_bits k → ones (slots % 16) ≡ length (group_one 2 1 k)
motors-are k e = ap (λ n. ones (n % 16)) e ∙ motors-count k

-- a number of four bits has few ones
pub few_ones : (n : ℕ) → ones (n % 16) ≤ 4
few_ones n = ones-le 4 (n % 16) (omega arith)

-- ---- the functions of row_ids.rt

abbrev turn : ℕ → ℕ
turn m = m % 4 * 2 + m / 4

own_right : ℕ → Bool
own_right m = eqb (turn m) (bits_of (at_axes (λ i. has_axis m i)))

all_own : T (below 8 own_right)
unfolding own_right has_axis
all_own = tt

pub turn-own : (m : ℕ) → turn (m % 8) ≡ bits_of (at_axes (λ i. has_axis m i))
unfolding own_right
turn-own m =
    rw (← low8-0 m, ← low8-1 m, ← low8-2 m)
    (eqb→eq (turn (m % 8)) (bits_of (at_axes (λ i. has_axis (m % 8) i))) (at 8 own_right all_own (m % 8) (omega arith)))

abbrev pub out : ℕ → ℕ → ℕ → ℕ → Bool
out m l c i = (has_axis m i && not (has_axis l i)) && not (has_axis c i)

outside_right : ℕ → ℕ → ℕ → Bool
outside_right m l c = eqb (turn (without m l c)) (bits_of (at_axes (out m l c)))

all-outside : T (below 8 (λ m. below 8 (λ l. below 8 (λ c. outside_right m l c))))
unfolding outside_right has_axis
all-outside = tt

outside_low : (m l c : ℕ) → m < 8 → l < 8 → c < 8 → turn (without m l c) ≡ bits_of (at_axes (out m l c))
unfolding outside_right
outside_low m l c hm hl hc =
    eqb→eq (turn (without m l c)) (bits_of (at_axes (out m l c)))
    (at 8 (λ c. outside_right m l c) (at 8 (λ l. below 8 (λ c. outside_right m l c)) (at 8 (λ m. below 8 (λ l. below 8 (λ c. outside_right m l c))) all-outside m hm) l hl) c hc)

pub turn-outside : (m l c : ℕ) → turn (without (m % 8) (l % 8) (c % 8)) ≡ bits_of (at_axes (out m l c))
turn-outside m l c =
    rw (← low8-0 m, ← low8-1 m, ← low8-2 m, ← low8-0 l, ← low8-1 l, ← low8-2 l, ← low8-0 c, ← low8-1 c, ← low8-2 c)
    (outside_low (m % 8) (l % 8) (c % 8) (omega arith) (omega arith) (omega arith))

pub axes-lt : (p : ℕ → Bool) → bits_of (at_axes p) < 8
axes-lt p = bits-lt (at_axes p)

pub axis-mid : (i f : ℕ) → 0 < i → i < 3 → i - 1 ≡ slot_axis i f
unfolding slot_axis
axis-mid zero f g h = absurd (omega arith)
axis-mid (suc zero) f g h = refl
axis-mid (suc (suc zero)) f g h = refl
axis-mid (suc (suc (suc i))) f g h = absurd (omega arith)

pub axis-last : (i f : ℕ) → 3 ≤ i → f ≡ slot_axis i f
unfolding slot_axis
axis-last zero f h = absurd (omega arith)
axis-last (suc zero) f h = absurd (omega arith)
axis-last (suc (suc zero)) f h = absurd (omega arith)
axis-last (suc (suc (suc i))) f h = refl
