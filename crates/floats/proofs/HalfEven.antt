-- `half_even num den` is the whole number nearest to num / den, and half way between two the even one (`nearest-even`); no other number is (`only_one`).
-- It is at least an even number j + 1 exactly if num / den is at least j + 1 less a half (`reaches-even`): with j + 1 = 2 ^ 31, that is where Over begins (`over-begins`).
use Rattle.std.proofs.Common.{◌≡◌, ℕ, suc, ◌+◌, ◌-◌, ◌*◌, ◌/◌, ◌%◌, ◌^◌, ◌<◌, ◌≤◌, Bool, true, false, cond, not, T, eqb, leb, ◌⊎◌, ◌↔◌, ℤ, refl, subst, inl, inr, mul-le-mul_right, mod-lt, eq-zero-or-pos, div-add-mod', arith, eqb→eq, leb→le, le-leb, leb-true}
use Prim.Native.Nat.{compare, Ordering}
use lib.Dec.{is_le, compare_is_eq, nleb→lt, eqb_refl}
use lib.Ieee.{fin, up, down, nearest}
use lib.Ieee.Fits.{down_pos}
use Rattle.floats.specs.MicroReport.{half_even, distance, NearestEven, whole_or_over, micro_report_of}
use Rattle.floats.specs.declared.micro_report.MicroReport.TheVariants.{Whole, Over}

-- ---- the three cases of the definition

abbrev Compared : Ordering → ℕ → ℕ → Type 0
Compared Ordering.lt a b = a < b
Compared Ordering.eq a b = a ≡ b
Compared Ordering.gt a b = b < a

compared : (a b : ℕ) → Compared (compare a b) a b
compared a b = go (compare a b) (leb→le a b) (nleb→lt a b) (eqb→eq a b) (λ (e : a ≡ b). subst (λ (x : ℕ). T (eqb a x)) e (eqb_refl a))
  where
    apart : a ≤ b → (a ≡ b → ⊥) → a < b
    apart h n = omega arith

    go : (o : Ordering) → (T (is_le o) → a ≤ b) → (T (not (is_le o)) → b < a) → (T (compare_is_eq o) → a ≡ b) → (a ≡ b → T (compare_is_eq o)) → Compared o a b
    go Ordering.lt h k e n = apart (h tt) n
    go Ordering.eq h k e n = e tt
    go Ordering.gt h k e n = k tt

-- what holds in each case holds of the result
pub cases : (P : ℕ → Type 0) (q a b : ℕ) → (a < b → P q) → (a ≡ b → P (q + q % 2)) → (b < a → P (q + 1)) → P (nearest q (compare a b))
cases P q a b below tie above = go (compare a b) (compared a b)
  where
    up-by-one : suc q ≡ q + 1
    up-by-one = omega arith

    go : (o : Ordering) → Compared o a b → P (nearest q o)
    go Ordering.lt h = below h
    go Ordering.eq h = tie h
    go Ordering.gt h = rw up-by-one (above h)

module _ (num den : ℕ) where
  pub below_half : num % den * 2 < den → half_even num den ≡ num / den
  unfolding half_even
  below_half h = cases (λ (x : ℕ). x ≡ num / den) (num / den) (num % den * 2) den (λ _. refl) (λ e. absurd (omega arith)) (λ l. absurd (omega arith))

  pub above_half : den < num % den * 2 → half_even num den ≡ num / den + 1
  unfolding half_even
  above_half h = cases (λ (x : ℕ). x ≡ num / den + 1) (num / den) (num % den * 2) den (λ l. absurd (omega arith)) (λ e. absurd (omega arith)) (λ _. refl)

  pub at-half : num % den * 2 ≡ den → half_even num den ≡ num / den + num / den % 2
  unfolding half_even
  at-half h = cases (λ (x : ℕ). x ≡ num / den + num / den % 2) (num / den) (num % den * 2) den (λ l. absurd (omega arith)) (λ _. refl) (λ l. absurd (omega arith))

-- ---- the nearest, and of two equally near the even one

-- a number of dens is at most q dens, or at least q + 1 of them
beside : (q n den : ℕ) → (n * den ≤ q * den) ⊎ (q * den + den ≤ n * den)
beside q n den = go (eq-zero-or-pos (n - q))
  where
    go : (n - q ≡ 0) ⊎ (0 < n - q) → (n * den ≤ q * den) ⊎ (q * den + den ≤ n * den)
    go (inl z) = let h : n ≤ q = omega arith in inl (mul-le-mul_right den h)
    go (inr p) = let h : q + 1 ≤ n = omega arith in inr (omega (arith, mul-le-mul_right den h))

-- the same of a number other than q
other : (q n den : ℕ) → (n ≡ q → ⊥) → (n * den + den ≤ q * den) ⊎ (q * den + den ≤ n * den)
other q n den d = go (eq-zero-or-pos (n - q))
  where
    go : (n - q ≡ 0) ⊎ (0 < n - q) → (n * den + den ≤ q * den) ⊎ (q * den + den ≤ n * den)
    go (inl z) = let h : n + 1 ≤ q = omega arith in inl (omega (arith, mul-le-mul_right den h))
    go (inr p) = let h : q + 1 ≤ n = omega arith in inr (omega (arith, mul-le-mul_right den h))

-- num is q dens and r more
module _ (num den q r : ℕ) (whole : q * den + r ≡ num) where
  lower-least : r * 2 ≤ den → (n : ℕ) → distance num (q * den) ≤ distance num (n * den)
  lower-least h n = go (beside q n den)
    where
      go : (n * den ≤ q * den) ⊎ (q * den + den ≤ n * den) → distance num (q * den) ≤ distance num (n * den)
      go (inl l) = omega arith
      go (inr l) = omega arith

  upper-least : r < den → den ≤ r * 2 → (n : ℕ) → distance num ((q + 1) * den) ≤ distance num (n * den)
  upper-least b h n = go (beside q n den)
    where
      go : (n * den ≤ q * den) ⊎ (q * den + den ≤ n * den) → distance num ((q + 1) * den) ≤ distance num (n * den)
      go (inl l) = omega arith
      go (inr l) = omega arith

  lower-alone : r * 2 < den → (n : ℕ) → (n ≡ q → ⊥) → distance num (n * den) ≡ distance num (q * den) → ⊥
  lower-alone h n d e = go (other q n den d)
    where
      go : (n * den + den ≤ q * den) ⊎ (q * den + den ≤ n * den) → ⊥
      go (inl l) = omega arith
      go (inr l) = omega arith

  upper-alone : r < den → den < r * 2 → (n : ℕ) → (n ≡ q + 1 → ⊥) → distance num (n * den) ≡ distance num ((q + 1) * den) → ⊥
  upper-alone b h n d e = go (other (q + 1) n den d)
    where
      go : (n * den + den ≤ (q + 1) * den) ⊎ ((q + 1) * den + den ≤ n * den) → ⊥
      go (inl l) = omega arith
      go (inr l) = omega arith

  -- half way between q and q + 1
  tie_least : r < den → r * 2 ≡ den → (n : ℕ) → distance num ((q + q % 2) * den) ≤ distance num (n * den)
  tie_least b h n = go (eq-zero-or-pos (q % 2))
    where
      go : (q % 2 ≡ 0) ⊎ (0 < q % 2) → distance num ((q + q % 2) * den) ≤ distance num (n * den)
      go (inl z) = let i : q + q % 2 ≡ q = omega arith in rw i (lower-least (omega arith) n)
      go (inr p) = let i : q + q % 2 ≡ q + 1 = omega arith in rw i (upper-least b (omega arith) n)

  is-nearest : r < den → NearestEven num den (nearest q (compare (r * 2) den))
  is-nearest b =
      cases (NearestEven num den) q (r * 2) den
      (λ h. record { least = lower-least (omega arith); even = λ n d e. absurd (lower-alone h n d e) })
      (λ h. record { least = tie_least b h; even = λ n d e. omega arith })
      (λ h. record { least = upper-least b (omega arith); even = λ n d e. absurd (upper-alone b h n d e) })

pub nearest-even : (num den : ℕ) → 0 < den → NearestEven num den (half_even num den)
unfolding half_even
nearest-even num den D = is-nearest num den (num / den) (num % den) (div-add-mod' num den) (mod-lt num D)

-- ---- no other number is

not-two : (num den r s : ℕ) → 0 < den → NearestEven num den r → NearestEven num den s → r < s → ⊥
not-two num den r s D a b l =
    let x = a.least s in
    let y = b.least r in
    let e = a.even s (λ i. omega arith) (omega arith) in
    let f = b.even r (λ i. omega arith) (omega arith) in
    let m = mul-le-mul_right den (two e f) in
    let p = a.least (r + 1) in
    let q = b.least (r + 1) in
    omega arith
  where
    two : r % 2 ≡ 0 → s % 2 ≡ 0 → r + 2 ≤ s
    two e f = omega arith

pub only_one : (num den r s : ℕ) → 0 < den → NearestEven num den r → NearestEven num den s → r ≡ s
only_one num den r s D a b = go (eq-zero-or-pos (r - s)) (eq-zero-or-pos (s - r))
  where
    go : (r - s ≡ 0) ⊎ (0 < r - s) → (s - r ≡ 0) ⊎ (0 < s - r) → r ≡ s
    go (inl y) (inl z) = omega arith
    go (inl y) (inr z) = absurd (not-two num den r s D a b (omega arith))
    go (inr y) z = absurd (not-two num den s r D b a (omega arith))

-- ---- where Over begins

-- an even number j + 1 is reached from a half below it on
module _ (num den j : ℕ) (D : 0 < den) (e : (j + 1) % 2 ≡ 0) where
  reached : (h : ℕ) → NearestEven num den h → (2 * j + 1) * den ≤ 2 * num → j + 1 ≤ h
  reached h n l = go (eq-zero-or-pos (h - j))
    where
      -- h at most j: then j + 1 is as near, and h is j
      low : h ≤ j → ⊥
      low k =
          let m = mul-le-mul_right den k in
          let x = n.least (j + 1) in
          let z : h % 2 ≡ 0 = n.even (j + 1) (λ i. omega arith) (omega arith) in
          let w : h + 1 ≤ j = omega arith in
          let v = mul-le-mul_right den w in
          omega arith

      go : (h - j ≡ 0) ⊎ (0 < h - j) → j + 1 ≤ h
      go (inl z) = absurd (low (omega arith))
      go (inr p) = omega arith

  reaching : (h : ℕ) → NearestEven num den h → j + 1 ≤ h → (2 * j + 1) * den ≤ 2 * num
  reaching h n l =
      let m = mul-le-mul_right den l in
      let x = n.least j in
      omega arith

  pub reaches-even : ((2 * j + 1) * den ≤ 2 * num) ↔ (j + 1 ≤ half_even num den)
  reaches-even = (reached (half_even num den) (nearest-even num den D), reaching (half_even num den) (nearest-even num den D))

-- A finite number's report is Over exactly if its millionths are 2 ^ 31 less a half or more in size.
pub over-begins : (s : Bool) (m : ℕ) (e : ℤ) → ((2 ^ 32 - 1) * down e ≤ 2 * (m * up e * 10 ^ 6)) ↔ (micro_report_of (fin s m e) ≡ Over)
unfolding micro_report_of whole_or_over
over-begins s m e =
    let num = m * up e * 10 ^ 6 in
    let r = reaches-even num (down e) (2 ^ 31 - 1) (down_pos e) refl in
    (λ h. simp (le-leb (2 ^ 31) (half_even num (down e)) (r.0 h)), λ h. r.1 (leb-true (2 ^ 31) (half_even num (down e)) (told (leb (2 ^ 31) (half_even num (down e))) _ h)))
  where
    told : (b : Bool) (z : ℤ) → cond b Over (Whole z) ≡ Over → b ≡ true
    told true z h = refl
    told false z h = cc
