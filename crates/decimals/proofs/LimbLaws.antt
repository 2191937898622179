-- A whole number as limbs: its lower and its upper limbs, one limb more of a product, and what a first limb that differs decides.
use mathlib.Core.Path.{◌≡◌, sym, ap, ◌∙◌}
use mathlib.Core.List.{List, [], ◌∷◌, ◌++◌}
use Prim.Native.Nat.{ℕ, zero, suc, ◌+◌, ◌-◌, ◌*◌, ◌/◌, ◌%◌, ◌^◌, ◌≤◌, ◌<◌}
use native.Mathlib.Nat.{mul-zero, sub-add_cancel, one-mul, zero-mul, suc-mul, zero-add, mul-add, add-mul, mul_assoc, mul_comm, mul_left_comm, mul-le-mul_left, pow-zero, pow-suc, one-le-pow, div-add-mod'}
use native.Mathlib.Numerals.{add-one}
use native.Mathlib.Omega.{arith}
use lib.ListN.{length, take, drop, get_or, set, drop_of_length-le}
use lib.Seq.{take_all, take-suc, take-suc-set, drop-cons, length-take-le}
use Rattle.decimals.specs.Limbs.{value}

-- the weight of limb i
abbrev pub W : ℕ → ℕ
W i = (2 ^ 32) ^ i

next : (i : ℕ) → W (suc i) ≡ W i * 2 ^ 32
next i = pow-suc (2 ^ 32) i

snoc : (xs : List ℕ) (x : ℕ) → value (xs ++ (x ∷ [])) ≡ value xs + W (length xs) * x
unfolding value
snoc [] x = omega (arith, one-mul x, pow-zero (2 ^ 32))
snoc (y ∷ ys) x =
    let v = value ys in
    let w = W (length ys) in
    let e : 2 ^ 32 * value (ys ++ (x ∷ [])) ≡ 2 ^ 32 * v + 2 ^ 32 * (w * x) = ap (λ (z : ℕ). 2 ^ 32 * z) (snoc ys x) ∙ mul-add (2 ^ 32) v (w * x) in
    let f : W (suc (length ys)) * x ≡ 2 ^ 32 * (w * x) = ap (λ (z : ℕ). z * x) (next (length ys) ∙ mul_comm w (2 ^ 32)) ∙ mul_assoc (2 ^ 32) w x in
    omega arith

pub split : (i : ℕ) (l : List ℕ) → value l ≡ value (take i l) + W i * value (drop i l)
unfolding value
split zero l = sym (zero-add (1 * value l) ∙ one-mul (value l))
split (suc i) [] = omega (arith, mul-zero (W (suc i)))
split (suc i) (x ∷ xs) =
    let t = value (take i xs) in
    let d = value (drop i xs) in
    let e : 2 ^ 32 * value xs ≡ 2 ^ 32 * t + 2 ^ 32 * (W i * d) = ap (λ (z : ℕ). 2 ^ 32 * z) (split i xs) ∙ mul-add (2 ^ 32) t (W i * d) in
    let f : W (suc i) * d ≡ 2 ^ 32 * (W i * d) = ap (λ (z : ℕ). z * d) (next i ∙ mul_comm (W i) (2 ^ 32)) ∙ mul_assoc (2 ^ 32) (W i) d in
    omega arith

pub take-lt : (i : ℕ) (l : List ℕ) → ((j : ℕ) → get_or l j 0 < 2 ^ 32) → value (take i l) < W i
unfolding value
take-lt zero l h = omega arith
take-lt (suc i) [] h = one-le-pow (suc i) (2 ^ 32) (omega arith)
take-lt (suc i) (x ∷ xs) h =
    let t = value (take i xs) in
    let a : x < 2 ^ 32 = h 0 in
    let b : 2 ^ 32 * suc t ≤ 2 ^ 32 * W i = mul-le-mul_left (2 ^ 32) (take-lt i xs (λ (j : ℕ). h (suc j))) in
    omega (arith, next i, mul_comm (W i) (2 ^ 32))

-- ---- a product, limb by limb
pub product-limb : (r a : List ℕ) (i k carry : ℕ) → i < length r → i < length a → value (take i r) + carry * W i ≡ value (take i a) * k
    → value (take (i + 1) (set r i ((get_or a i 0 * k + carry) % 2 ^ 32))) + (get_or a i 0 * k + carry) / 2 ^ 32 * W (i + 1) ≡ value (take (i + 1) a) * k
product-limb r a i k carry hr ha h =
    let x = get_or a i 0 in
    let t = x * k + carry in
    let lo = t % 2 ^ 32 in
    let hi = t / 2 ^ 32 in
    let e1 : value (take (i + 1) (set r i lo)) ≡ value (take i r) + W i * lo =
    ap (λ (n : ℕ). value (take n (set r i lo))) (add-one i) ∙ ap value (take-suc-set r i lo hr) ∙ snoc (take i r) lo ∙ ap (λ (n : ℕ). value (take i r) + W n * lo) (length-take-le i r (omega arith)) in
    let e2 : value (take (i + 1) a) ≡ value (take i a) + W i * x =
    ap (λ (n : ℕ). value (take n a)) (add-one i) ∙ ap value (take-suc a i 0 ha) ∙ snoc (take i a) x ∙ ap (λ (n : ℕ). value (take i a) + W n * x) (length-take-le i a (omega arith)) in
    let e3 : hi * W (i + 1) ≡ W i * (hi * 2 ^ 32) = ap (λ (n : ℕ). hi * W n) (add-one i) ∙ ap (λ (n : ℕ). hi * n) (next i) ∙ mul_left_comm hi (W i) (2 ^ 32) in
    let e4 : W i * (hi * 2 ^ 32) + W i * lo ≡ W i * (x * k) + W i * carry = sym (mul-add (W i) (hi * 2 ^ 32) lo) ∙ ap (λ (n : ℕ). W i * n) (div-add-mod' t (2 ^ 32)) ∙ mul-add (W i) (x * k) carry in
    let e5 : value (take (i + 1) a) * k ≡ value (take i a) * k + W i * (x * k) = ap (λ (n : ℕ). n * k) e2 ∙ add-mul (value (take i a)) (W i * x) k ∙ ap (λ (n : ℕ). value (take i a) * k + n) (mul_assoc (W i) x k) in
    let e6 : carry * W i ≡ W i * carry = mul_comm carry (W i) in
    omega arith

no-carry : (x carry p m : ℕ) → x + carry * m ≡ p → p < m → x ≡ p
no-carry x zero p m h l = omega (arith, zero-mul m)
no-carry x (suc c) p m h l = omega (arith, suc-mul c m)

-- all limbs of a product
pub product_whole : (r a : List ℕ) (i k carry : ℕ) → i ≡ 14 → length r ≡ 14 → length a ≡ 14 → value (take i r) + carry * W i ≡ value (take i a) * k
    → value a * k < 2 ^ 448 → value r ≡ value a * k
product_whole r a i k carry e lr la h small =
    let er : value (take i r) ≡ value r = ap value (take_all i r (omega arith)) in
    let ea : value (take i a) ≡ value a = ap value (take_all i a (omega arith)) in
    no-carry (value r) carry (value a * k) (2 ^ 448) (rw (er, ea, e) at h) small

-- ---- two numbers that have their limbs from i on in common, and limb i - 1
module _ (a b : List ℕ) (i : ℕ) (pos : 0 < i) (la : i ≤ length a) (lb : i ≤ length b) where
  at_drop : (l : List ℕ) → i ≤ length l → value (drop (i - 1) l) ≡ get_or l (i - 1) 0 + 2 ^ 32 * value (drop i l)
  unfolding value
  at_drop l h =
      ap value (drop-cons l (i - 1) 0 (omega arith))
      ∙ ap (λ (n : ℕ). get_or l (i - 1) 0 + 2 ^ 32 * value (drop n l)) (sym (add-one (i - 1)) ∙ sub-add_cancel pos)

  pub limb-decides : ((j : ℕ) → get_or a j 0 < 2 ^ 32) → value (drop i a) ≡ value (drop i b) → get_or a (i - 1) 0 < get_or b (i - 1) 0 → value a < value b
  limb-decides fits same less =
      let w = W (i - 1) in
      let da = value (drop (i - 1) a) in
      let db = value (drop (i - 1) b) in
      let m : w * suc da ≤ w * db = mul-le-mul_left w (omega (arith, at_drop a la, at_drop b lb)) in
      let e : w * suc da ≡ w * da + w * 1 = ap (λ (n : ℕ). w * n) (sym (add-one da)) ∙ mul-add w da 1 in
      omega (arith, split (i - 1) a, split (i - 1) b, take-lt (i - 1) a fits)

  pub limb-same : value (drop i a) ≡ value (drop i b) → get_or a (i - 1) 0 ≡ get_or b (i - 1) 0 → value (drop (i - 1) a) ≡ value (drop (i - 1) b)
  limb-same same eq = at_drop a la ∙ ap (λ (n : ℕ). n + 2 ^ 32 * value (drop i a)) eq ∙ ap (λ (n : ℕ). get_or b (i - 1) 0 + 2 ^ 32 * n) same ∙ sym (at_drop b lb)

pub both-whole : (a b : List ℕ) (n : ℕ) → length a ≡ n → length b ≡ n → value (drop n a) ≡ value (drop n b)
both-whole a b n la lb = ap value (drop_of_length-le a {i = n} (omega arith)) ∙ sym (ap value (drop_of_length-le b {i = n} (omega arith)))

pub whole_same : (a b : List ℕ) (i : ℕ) → i ≤ 0 → value (drop i a) ≡ value (drop i b) → value a ≤ value b
whole_same a b i h e = let z : i ≡ 0 = omega arith in let g : value a ≡ value b = rw z at e in omega arith
