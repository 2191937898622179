-- Whole numbers with a sign, for `omega`, which reads natural numbers only: an integer is `plus z` - `less z`, of which one is 0.
-- A sum, a difference and a multiple have linear laws in these parts, and so has the size. Assumes nothing.
use Rattle.std.proofs.Common.{◌≡◌, ℕ, zero, suc, ◌+◌, ◌-◌, ◌*◌, ◌<◌, ◌≤◌, Bool, true, false, cond, not, T, ltb, ℤ, pos, negsuc, ◌+ℤ◌, ◌-ℤ◌, ◌*ℤ◌, neg_ℤ, nat_abs, sym, refl, ap, ◌∙◌, zero-mul, arith, ltb→lt, nltb→le}
use lib.IntN.{sub_ℕ}
use Rattle.floats.specs.Value.{signed_units}

abbrev pub plus : ℤ → ℕ
plus (pos n) = n
plus (negsuc n) = 0

abbrev pub less : ℤ → ℕ
less (pos n) = 0
less (negsuc n) = suc n

-- z is a - b
pub record Is (z : ℤ) (a b : ℕ) : Type 0 where
  pub is : plus z + b ≡ less z + a

subtraction : (a b : ℕ) → Is (sub_ℕ a b) a b
subtraction a b = go (ltb a b) (ltb→lt a b) (nltb→le a b)
  where
    go : (c : Bool) → (T c → a < b) → (T (not c) → b ≤ a) → Is (cond c (negsuc (b - suc a)) (pos (a - b))) a b
    go true h k = let l = h tt in record { is = omega arith }
    go false h k = let l = k tt in record { is = omega arith }

pub sum_is : (y z : ℤ) → Is (y +ℤ z) (plus y + plus z) (less y + less z)
sum_is (pos m) (pos n) = record { is = omega arith }
sum_is (pos m) (negsuc n) = let s = (subtraction m (suc n)).is in record { is = omega arith }
sum_is (negsuc m) (pos n) = let s = (subtraction n (suc m)).is in record { is = omega arith }
sum_is (negsuc m) (negsuc n) = record { is = omega arith }

pub neg-plus : (z : ℤ) → plus (neg_ℤ z) ≡ less z
neg-plus (pos zero) = refl
neg-plus (pos (suc n)) = refl
neg-plus (negsuc n) = refl

pub neg-less : (z : ℤ) → less (neg_ℤ z) ≡ plus z
neg-less (pos zero) = refl
neg-less (pos (suc n)) = refl
neg-less (negsuc n) = refl

pub diff_is : (y z : ℤ) → Is (y -ℤ z) (plus y + less z) (less y + plus z)
diff_is y z = record { is = omega (arith, (sum_is y (neg_ℤ z)).is, neg-plus z, neg-less z) }

pub times-plus : (z : ℤ) (k : ℕ) → plus (z *ℤ pos k) ≡ plus z * k
times-plus (pos n) k = refl
times-plus (negsuc n) k = neg-plus (pos (suc n * k)) ∙ sym (zero-mul k)

pub times-less : (z : ℤ) (k : ℕ) → less (z *ℤ pos k) ≡ less z * k
times-less (pos n) k = sym (zero-mul k)
times-less (negsuc n) k = neg-less (pos (suc n * k))

pub signed_is : (s : Bool) (n : ℕ) → Is (signed_units s n) (cond s 0 n) (cond s n 0)
signed_is true n = record { is = omega (arith, neg-plus (pos n), neg-less (pos n)) }
signed_is false n = record { is = omega arith }

-- where a and b are at most k / 2 apart, an integer that is a - b has a size of at most k / 2
pub twice-abs-le : (z : ℤ) (a b k : ℕ) → Is z a b → 2 * a ≤ 2 * b + k → 2 * b ≤ 2 * a + k → 2 * nat_abs z ≤ k
twice-abs-le (pos n) a b k i h l = omega (arith, i.is)
twice-abs-le (negsuc n) a b k i h l = omega (arith, i.is)

pub abs-above : (z : ℤ) → plus z ≤ less z + nat_abs z
abs-above (pos n) = omega arith
abs-above (negsuc n) = omega arith

pub abs-below : (z : ℤ) → less z ≤ plus z + nat_abs z
abs-below (pos n) = omega arith
abs-below (negsuc n) = omega arith

-- two integers that are the same difference are the same
pub same : (y z : ℤ) → plus y + less z ≡ less y + plus z → y ≡ z
same (pos m) (pos n) h = ap pos (omega arith)
same (pos m) (negsuc n) h = absurd (omega arith)
same (negsuc m) (pos n) h = absurd (omega arith)
same (negsuc m) (negsuc n) h = ap negsuc (omega arith)
