-- Digits counted up to 10^19: no reading of a word sees the difference.
use mathlib.Core.Path.{◌≡◌, sym, ap, ◌∙◌}
use mathlib.Core.Logic.{inl, inr}
use mathlib.Core.Bool.{Bool, true, false, cond}
use mathlib.Core.List.{List, [], ◌∷◌}
use Prim.Native.Nat.{ℕ, suc, ◌+◌, ◌-◌, ◌*◌, ◌^◌, ◌≤◌, ◌<◌}
use native.Mathlib.Numerals.{add-one}
use native.Mathlib.Omega.{arith}
use borrow.Author.Tests.{lt-ltb, le-ltb, le-leb, lt-leb, leb-true}
use lib.Dec.{leb}
use lib.ListN.{length, drop, get_or, drop_of_length-le}
use lib.Seq.{drop-cons}
use Rattle.texts.specs.Digits.{is_digit}
use Rattle.decimals.specs.Words.{digits_count, digits_value}
use Rattle.decimals.specs.Capped.{cap}
use Rattle.decimals.specs.declared.digits.Digits.{Digits}
use Rattle.decimals.proofs.PatternLaws.{side}

pub cap-small : (v : ℕ) → v < 10 ^ 19 → cap v ≡ v
unfolding cap
cap-small v h = ap (λ (t : Bool). cond t v (10 ^ 19)) (lt-ltb v (10 ^ 19) h)

pub cap-large : (v : ℕ) → 10 ^ 19 ≤ v → cap v ≡ 10 ^ 19
unfolding cap
cap-large v h = ap (λ (t : Bool). cond t v (10 ^ 19)) (le-ltb v (10 ^ 19) h)

pub cap-most : (v : ℕ) → v ≤ 10 ^ 19 → v ≡ cap v
cap-most v h = elim (side v (10 ^ 19)) [ inl l ↦ sym (cap-small v l) | inr g ↦ omega (arith, cap-large v g) ]

pub cap-le : (v : ℕ) → cap v ≤ 10 ^ 19
cap-le v = elim (side v (10 ^ 19)) [ inl l ↦ omega (arith, cap-small v l) | inr g ↦ omega (arith, cap-large v g) ]

cap-step : (v d : ℕ) → cap (cap v * 10 + d) ≡ cap (v * 10 + d)
cap-step v d =
    elim (side v (10 ^ 19)) [
      | inl l ↦ ap (λ (x : ℕ). cap (x * 10 + d)) (cap-small v l)
      | inr g ↦ cap-large (cap v * 10 + d) (omega (arith, cap-large v g)) ∙ sym (cap-large (v * 10 + d) (omega arith))
    ]

pub cap-cap : (v : ℕ) → cap (cap v) ≡ cap v
cap-cap v = sym (cap-most (cap v) (cap-le v))

-- digits after a value that was counted so
pub cap-digits : (v : ℕ) (bs : List ℕ) → cap (digits_value (cap v) bs) ≡ cap (digits_value v bs)
unfolding digits_value
cap-digits v [] = cap-cap v
cap-digits v (b ∷ bs) = go (is_digit b) (λ x. cap-digits x bs)
  where
    go : (t : Bool) → ((x : ℕ) → cap (digits_value (cap x) bs) ≡ cap (digits_value x bs))
        → cap (cond t (digits_value (cap v * 10 + (b - 0x30)) bs) (cap v)) ≡ cap (cond t (digits_value (v * 10 + (b - 0x30)) bs) v)
    go true later =
        sym (later (cap v * 10 + (b - 0x30))) ∙ ap (λ (x : ℕ). cap (digits_value x bs)) (cap-step v (b - 0x30)) ∙ later (v * 10 + (b - 0x30))
    go false later = cap-cap v

-- ---- the turns of the loop over digits, at position i of a text
module _ (s : List ℕ) (i v : ℕ) where
  pub digit-count : i < length s → is_digit (get_or s i 0) ≡ true → i + digits_count (drop i s) ≡ i + 1 + digits_count (drop (i + 1) s)
  unfolding digits_count
  digit-count below e =
      ap (λ (l : List ℕ). i + digits_count l) (drop-cons s i 0 below)
      ∙ ap (λ (t : Bool). i + cond t (suc (digits_count (drop (suc i) s))) 0) e
      ∙ ap (λ (k : ℕ). i + suc (digits_count (drop k s))) (sym (add-one i))
      ∙ omega arith

  pub digit_value : i < length s → is_digit (get_or s i 0) ≡ true → cap (digits_value (cap (v * 10 + (get_or s i 0 - 0x30))) (drop (i + 1) s)) ≡ cap (digits_value v (drop i s))
  unfolding digits_value
  digit_value below e =
      cap-digits (v * 10 + (get_or s i 0 - 0x30)) (drop (i + 1) s)
      ∙ sym
      (ap (λ (l : List ℕ). cap (digits_value v l)) (drop-cons s i 0 below)
      ∙ ap (λ (t : Bool). cap (cond t (digits_value (v * 10 + (get_or s i 0 - 0x30)) (drop (suc i) s)) v)) e
      ∙ ap (λ (k : ℕ). cap (digits_value (v * 10 + (get_or s i 0 - 0x30)) (drop k s))) (sym (add-one i)))

  pub stop-count : i < length s → is_digit (get_or s i 0) ≡ false → i + digits_count (drop i s) ≡ i
  unfolding digits_count
  stop-count below e =
      ap (λ (l : List ℕ). i + digits_count l) (drop-cons s i 0 below) ∙ ap (λ (t : Bool). i + cond t (suc (digits_count (drop (suc i) s))) 0) e ∙ omega arith

  pub stop-value : i < length s → is_digit (get_or s i 0) ≡ false → digits_value v (drop i s) ≡ v
  unfolding digits_value
  stop-value below e =
      ap (λ (l : List ℕ). digits_value v l) (drop-cons s i 0 below) ∙ ap (λ (t : Bool). cond t (digits_value (v * 10 + (get_or s i 0 - 0x30)) (drop (suc i) s)) v) e

  pub end-count : length s ≤ i → i + digits_count (drop i s) ≡ i
  unfolding digits_count
  end-count h = ap (λ (l : List ℕ). i + digits_count l) (drop_of_length-le s h) ∙ omega arith

  pub end-value : length s ≤ i → digits_value v (drop i s) ≡ v
  unfolding digits_value
  end-value h = ap (λ (l : List ℕ). digits_value v l) (drop_of_length-le s h)

-- ---- the tests of a byte
pub digit_low : (b : ℕ) → b < 0x30 → false ≡ is_digit b
unfolding is_digit
digit_low b h = simp (lt-leb 0x30 b h)

pub digit-high : (b : ℕ) → 0x30 ≤ b → is_digit b ≡ leb b 0x39
unfolding is_digit
digit-high b h = simp (le-leb 0x30 b h)

pub digit-least : (b : ℕ) → is_digit b ≡ true → 0x30 ≤ b
digit-least b h = elim (side b 0x30) [ inl l ↦ let z : true ≡ false = sym h ∙ sym (digit_low b l) in absurd (no z) | inr g ↦ g ]
  where
    no : true ≡ false → ⊥
    no z = let e : ◌≡◌ {A = ℕ} 0 1 = cc in omega arith

pub digit-most : (b : ℕ) → is_digit b ≡ true → b ≤ 0x39
digit-most b h = leb-true b 0x39 (sym (digit-high b (digit-least b h)) ∙ h)

abbrev pub digits : ℕ → ℕ → Digits
digits v e = record { value = v; end = e }

pub digits_same : (v v' e e' : ℕ) → v ≡ v' → e ≡ e' → digits v e ≡ digits v' e'
digits_same v v' e e' p q = ap (λ (x : ℕ). digits x e) p ∙ ap (digits v') q
