-- A sum or a difference of two binary32 numbers, if it is finite, is off by at most half the spacing at the result (`add-near`, `sub-near`), and its
-- second operand is finite (`add-finite`, `sub-finite`). Assumes nothing.
use Rattle.std.proofs.Common.{◌≡◌, ℕ, ◌+◌, ◌-◌, ◌*◌, ◌^◌, ◌<◌, ◌≤◌, Bool, true, false, cond, not, ◌&&◌, T, ltb, ℤ, pos, ◌+ℤ◌, ◌-ℤ◌, neg_ℤ, nat_abs, sym, refl, ap, ◌∙◌, subst, le_of_lt, mul-le-mul_right, mul_assoc, add-mul, lt_of_mul-lt-mul_right, mul-lt-mul_of_pos_right, mul-pos, mul_right_comm, le_of_mul-le-mul_right, arith, ltb→lt, nltb→le, pow_pos}
use mathlib.Core.Bool.{beq}
use lib.Ieee.{Float, nan, inf, fin, binary32, up, down, size, round, sum, add, sub, neg, fits}
use lib.Ieee.Digits.{back}
use lib.Ieee.Fits.{down_pos, neg-fits}
use lib.Ieee.Scale.{finite, round_same}
use Rattle.floats.specs.Operators.{◌⊕◌, ◌⊖◌}
use Rattle.floats.specs.Scalar.{is_finite}
use Rattle.floats.specs.Bits.{units_of}
use Rattle.floats.specs.Value.{magnitude_of, exact_value_of, signed_units, spacing_of}
use Rattle.floats.proofs.IntegerParts.{same, sum_is, diff_is, signed_is, neg-plus, neg-less, twice-abs-le}
use Rattle.floats.proofs.RoundingError.{Apart, rounded, round-near, round-value}
use Rattle.floats.proofs.BitsLaws.{units-exact}
use Rattle.floats.proofs.UnitValues.{size_is, value-is}

pub finite-of : (x : Float) → T (is_finite x) → T (finite x)
unfolding is_finite
finite-of nan t = t
finite-of (inf s) t = t
finite-of (fin s m e) t = tt

-- ---- one rounding: x is near to ± W units

pub record Near (s : Bool) (W : ℕ) (x : Float) : Type 0 where
  pub units : ℕ
  pub is : exact_value_of x ≡ signed_units s units
  pub apart : Apart (spacing_of x) W units

spacing-is : (x : Float) (G : ℕ) → magnitude_of x ≡ G → 2 ^ (size G - 24) ≡ spacing_of x
unfolding spacing_of
spacing-is x G e = ap (λ (n : ℕ). 2 ^ (size n - 24)) (sym e)

near-units : (s : Bool) (W : ℕ) → T (is_finite (round binary32 s W (2 ^ 149))) → Near s W (round binary32 s W (2 ^ 149))
near-units s W t =
    let x = round binary32 s W (2 ^ 149) in
    let v = round-value binary32 s W (finite-of x t) in
    record {
      units = rounded binary32 W;
      is = value-is x s (rounded binary32 W) v;
      apart = subst (λ (u : ℕ). Apart u W (rounded binary32 W)) (spacing-is x (rounded binary32 W) (size_is x s (rounded binary32 W) v)) (round-near binary32 W);
    }

-- a / c is W units
near : (s : Bool) (a c W : ℕ) → 0 < c → a * 2 ^ 149 ≡ W * c → T (is_finite (round binary32 s a c)) → Near s W (round binary32 s a c)
near s a c W C e t =
    let r : round binary32 s W (2 ^ 149) ≡ round binary32 s a c = sym (round_same binary32 s a c W (2 ^ 149) C (pow_pos 149) e) in
    subst (λ (x : Float). Near s W x) r (near-units s W (subst (λ (x : Float). T (is_finite x)) (sym r) t))

-- the bound, for a number that is ± W units
abbrev pub Off : Float → ℤ → Type 0
Off x y = 2 * nat_abs (exact_value_of x -ℤ y) ≤ spacing_of x

apart-signed : (s : Bool) (W G u : ℕ) → Apart u W G → 2 * nat_abs (signed_units s G -ℤ signed_units s W) ≤ u
apart-signed true W G u h = twice-abs-le (signed_units true G -ℤ signed_units true W) W G u (record { is = omega (arith, (diff_is (signed_units true G) (signed_units true W)).is, (signed_is true G).is, (signed_is true W).is) }) h.below h.above
apart-signed false W G u h = twice-abs-le (signed_units false G -ℤ signed_units false W) G W u (record { is = omega (arith, (diff_is (signed_units false G) (signed_units false W)).is) }) h.above h.below

close : (x : Float) (s : Bool) (W : ℕ) (y : ℤ) → signed_units s W ≡ y → Near s W x → Off x y
close x s W y e n =
    subst (λ (z : ℤ). 2 * nat_abs (exact_value_of x -ℤ z) ≤ spacing_of x) e
    (subst (λ (z : ℤ). 2 * nat_abs (z -ℤ signed_units s W) ≤ spacing_of x) (sym n.is) (apart-signed s W n.units (spacing_of x) n.apart))

-- ---- a sum of a / c and b / c, which are A and B units

sums : (a b L c A B : ℕ) → a * L ≡ A * c → b * L ≡ B * c → (a + b) * L ≡ (A + B) * c
sums a b L c A B p q = add-mul a b L ∙ ap (λ (x : ℕ). x + b * L) p ∙ ap (λ (x : ℕ). A * c + x) q ∙ sym (add-mul A B c)

differences : (a b L c A B : ℕ) → a ≤ b → A ≤ B → a * L ≡ A * c → b * L ≡ B * c → (b - a) * L ≡ (B - A) * c
differences a b L c A B h k p q =
    let x : (b - a) * L + a * L ≡ b * L = sym (add-mul (b - a) a L) ∙ ap (λ (z : ℕ). z * L) (back b a h) in
    let y : (B - A) * c + A * c ≡ B * c = sym (add-mul (B - A) A c) ∙ ap (λ (z : ℕ). z * c) (back B A k) in
    go ((b - a) * L) (a * L) (b * L) ((B - A) * c) (A * c) (B * c) x y p q
  where
    go : (u v w x y z : ℕ) → u + v ≡ w → x + y ≡ z → v ≡ y → w ≡ z → u ≡ x
    go u v w x y z e f g h = omega arith

order_lt : (a b L c A B : ℕ) → 0 < L → a * L ≡ A * c → b * L ≡ B * c → a < b → A < B
order_lt a b L c A B l p q h = lt_of_mul-lt-mul_right c (subst (λ (x : ℕ). x < B * c) p (subst (λ (x : ℕ). a * L < x) q (mul-lt-mul_of_pos_right h l)))

order_le : (a b L c A B : ℕ) → 0 < c → a * L ≡ A * c → b * L ≡ B * c → a ≤ b → A ≤ B
order_le a b L c A B C p q h = le_of_mul-le-mul_right (subst (λ (x : ℕ). x ≤ B * c) p (subst (λ (x : ℕ). a * L ≤ x) q (mul-le-mul_right L h))) C

module _ (a b c A B : ℕ) (C : 0 < c) (p : a * 2 ^ 149 ≡ A * c) (q : b * 2 ^ 149 ≡ B * c) where
  like : (s : Bool) → T (is_finite (round binary32 s (a + b) c)) → Off (round binary32 s (a + b) c) (signed_units s A +ℤ signed_units s B)
  like s t = close (round binary32 s (a + b) c) s (A + B) (signed_units s A +ℤ signed_units s B) (add s) (near s (a + b) c (A + B) C (sums a b (2 ^ 149) c A B p q) t)
    where
      add : (s : Bool) → signed_units s (A + B) ≡ signed_units s A +ℤ signed_units s B
      add true = same (signed_units true (A + B)) (signed_units true A +ℤ signed_units true B) (omega (arith, (signed_is true (A + B)).is, (sum_is (signed_units true A) (signed_units true B)).is, (signed_is true A).is, (signed_is true B).is))
      add false = refl

  -- the larger one, b, has the sign t
  larger-b : (s t : Bool) → T (not (beq s t)) → a < b → T (is_finite (round binary32 t (b - a) c)) → Off (round binary32 t (b - a) c) (signed_units s A +ℤ signed_units t B)
  larger-b s t d h f =
      let H = order_lt a b (2 ^ 149) c A B (pow_pos 149) p q h in
      close (round binary32 t (b - a) c) t (B - A) (signed_units s A +ℤ signed_units t B) (gap s t d H)
      (near t (b - a) c (B - A) C (differences a b (2 ^ 149) c A B (le_of_lt h) (le_of_lt H) p q) f)
    where
      gap : (s t : Bool) → T (not (beq s t)) → A < B → signed_units t (B - A) ≡ signed_units s A +ℤ signed_units t B
      gap true true d H = absurd d
      gap true false d H = same (signed_units false (B - A)) (signed_units true A +ℤ signed_units false B) (omega (arith, (sum_is (signed_units true A) (signed_units false B)).is, (signed_is true A).is))
      gap false true d H = same (signed_units true (B - A)) (signed_units false A +ℤ signed_units true B) (omega (arith, (sum_is (signed_units false A) (signed_units true B)).is, (signed_is true B).is, (signed_is true (B - A)).is))
      gap false false d H = absurd d

  -- the larger one, a, has the sign s; where both are as large, the sum is +0
  larger-a : (s t w : Bool) → T (not (beq s t)) → b ≤ a → (T w → b < a) → (T (not w) → a ≤ b) → T (is_finite (round binary32 (s && w) (a - b) c)) → Off (round binary32 (s && w) (a - b) c) (signed_units s A +ℤ signed_units t B)
  larger-a s t w d h y n f =
      let H = order_le b a (2 ^ 149) c B A C q p h in
      close (round binary32 (s && w) (a - b) c) (s && w) (A - B) (signed_units s A +ℤ signed_units t B) (gap s t w d H (λ (z : T (not w)). order_le a b (2 ^ 149) c A B C p q (n z)))
      (near (s && w) (a - b) c (A - B) C (differences b a (2 ^ 149) c B A h H q p) f)
    where
      gap : (s t w : Bool) → T (not (beq s t)) → B ≤ A → (T (not w) → A ≤ B) → signed_units (s && w) (A - B) ≡ signed_units s A +ℤ signed_units t B
      gap true true w d H k = absurd d
      gap false false w d H k = absurd d
      gap true false true d H k = same (signed_units true (A - B)) (signed_units true A +ℤ signed_units false B) (omega (arith, (sum_is (signed_units true A) (signed_units false B)).is, (signed_is true A).is, (signed_is true (A - B)).is))
      gap true false false d H k = let K = k tt in same (signed_units false (A - B)) (signed_units true A +ℤ signed_units false B) (omega (arith, (sum_is (signed_units true A) (signed_units false B)).is, (signed_is true A).is))
      gap false true w d H k = same (signed_units false (A - B)) (signed_units false A +ℤ signed_units true B) (omega (arith, (sum_is (signed_units false A) (signed_units true B)).is, (signed_is true B).is))

  opposite : (s t u w : Bool) → T (not (beq s t)) → (T u → a < b) → (T (not u) → b ≤ a) → (T w → b < a) → (T (not w) → a ≤ b)
      → T (is_finite (cond u (round binary32 t (b - a) c) (round binary32 (s && w) (a - b) c))) → Off (cond u (round binary32 t (b - a) c) (round binary32 (s && w) (a - b) c)) (signed_units s A +ℤ signed_units t B)
  opposite s t true w d h k y n f = larger-b s t d (h tt) f
  opposite s t false w d h k y n f = larger-a s t w d (k tt) y n f

  sum-off : (s t : Bool) → T (is_finite (sum binary32 s a t b c)) → Off (sum binary32 s a t b c) (signed_units s A +ℤ signed_units t B)
  unfolding sum
  sum-off true true f = like true f
  sum-off false false f = like false f
  sum-off true false f = opposite true false (ltb a b) (ltb b a) tt (ltb→lt a b) (nltb→le a b) (ltb→lt b a) (nltb→le b a) f
  sum-off false true f = opposite false true (ltb a b) (ltb b a) tt (ltb→lt a b) (nltb→le a b) (ltb→lt b a) (nltb→le b a) f

-- ---- the operators

infinite-sum : (s t : Bool) → T (is_finite (cond (beq s t) (inf s) nan)) → ⊥
unfolding is_finite
infinite-sum true true f = f
infinite-sum true false f = f
infinite-sum false true f = f
infinite-sum false false f = f

pub add-near : (x y : Float) → T (fits binary32 x) → T (fits binary32 y) → T (is_finite (x ⊕ y)) → 2 * nat_abs (exact_value_of (x ⊕ y) -ℤ (exact_value_of x +ℤ exact_value_of y)) ≤ spacing_of (x ⊕ y)
unfolding add exact_value_of
add-near nan y p q f = absurd (unfold is_finite in f)
add-near (inf s) nan p q f = absurd (unfold is_finite in f)
add-near (inf s) (inf t) p q f = absurd (infinite-sum s t f)
add-near (inf s) (fin t n d) p q f = absurd (unfold is_finite in f)
add-near (fin s m e) nan p q f = absurd (unfold is_finite in f)
add-near (fin s m e) (inf t) p q f = absurd (unfold is_finite in f)
add-near (fin s m e) (fin t n d) p q f =
    sum-off (m * up e * down d) (n * up d * down e) (down e * down d) (units_of m e) (units_of n d) (mul-pos (down_pos e) (down_pos d))
    (mul_right_comm (m * up e) (down d) (2 ^ 149) ∙ ap (λ (x : ℕ). x * down d) (sym (units-exact s m e p)) ∙ mul_assoc (units_of m e) (down e) (down d))
    (mul_right_comm (n * up d) (down e) (2 ^ 149) ∙ ap (λ (x : ℕ). x * down e) (sym (units-exact t n d q)) ∙ mul_right_comm (units_of n d) (down d) (down e) ∙ mul_assoc (units_of n d) (down e) (down d))
    s t f

neg-signed : (s : Bool) (n : ℕ) → signed_units (not s) n ≡ neg_ℤ (signed_units s n)
neg-signed true n = same (pos n) (neg_ℤ (neg_ℤ (pos n))) (omega (arith, neg-plus (neg_ℤ (pos n)), neg-less (neg_ℤ (pos n)), neg-plus (pos n), neg-less (pos n)))
neg-signed false n = refl

neg_value : (y : Float) → exact_value_of (neg y) ≡ neg_ℤ (exact_value_of y)
unfolding neg exact_value_of
neg_value nan = refl
neg_value (inf s) = refl
neg_value (fin s m e) = neg-signed s (units_of m e)

pub sub-near : (x y : Float) → T (fits binary32 x) → T (fits binary32 y) → T (is_finite (x ⊖ y)) → 2 * nat_abs (exact_value_of (x ⊖ y) -ℤ (exact_value_of x -ℤ exact_value_of y)) ≤ spacing_of (x ⊖ y)
unfolding sub
sub-near x y p q f =
    subst (λ (z : ℤ). 2 * nat_abs (exact_value_of (x ⊕ neg y) -ℤ (exact_value_of x +ℤ z)) ≤ spacing_of (x ⊕ neg y)) (neg_value y)
    (add-near x (neg y) p (neg-fits binary32 y q) f)

-- ---- a sum or a difference that is finite has finite operands: the second one

pub add-finite : (x y : Float) → T (is_finite (x ⊕ y)) → T (is_finite y)
unfolding add is_finite
add-finite nan y f = absurd f
add-finite (inf s) nan f = absurd f
add-finite (inf true) (inf true) f = absurd f
add-finite (inf true) (inf false) f = absurd f
add-finite (inf false) (inf true) f = absurd f
add-finite (inf false) (inf false) f = absurd f
add-finite (inf s) (fin t n d) f = absurd f
add-finite (fin s m e) nan f = absurd f
add-finite (fin s m e) (inf t) f = absurd f
add-finite (fin s m e) (fin t n d) f = tt

neg-finite : (y : Float) → T (is_finite (neg y)) → T (is_finite y)
unfolding neg is_finite
neg-finite nan f = f
neg-finite (inf s) f = f
neg-finite (fin s m e) f = tt

pub sub-finite : (x y : Float) → T (is_finite (x ⊖ y)) → T (is_finite y)
unfolding sub
sub-finite x y f = neg-finite y (add-finite x (neg y) f)
