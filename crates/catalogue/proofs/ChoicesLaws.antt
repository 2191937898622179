-- The list of all choices: 4096 entries, entry n the choice of n's digits to the base 8 (`entry_at`), all of them legal (`legal`), and every legal choice
-- once (`once`). Entry 1824 is 3, 4, 4, 0 (`entry-1824`).
use Prim.Native.Nat.{ℕ, zero, suc, ◌+◌, ◌*◌, ◌/◌, ◌%◌, ◌<◌}
use mathlib.Core.Path.{◌≡◌, refl, sym, ap, ◌∙◌}
use mathlib.Core.List.{List, [], ◌∷◌}
use native.Mathlib.Nat.{zero-add}
use native.Mathlib.Omega.{arith}
use lib.ListN.{length, get_or}
use Rattle.rows.specs.RowIds.{no_masks, axes}
use Rattle.rows.specs.declared.generic_joint.Masks.{Masks}
use Rattle.catalogue.specs.Choices.{masks, each_mask, choices, entry, choice_of, Legal, Once}
use Rattle.catalogue.proofs.FlatLaws.{flat-length, flat-at}

-- entry q of the masks, or of any numbers that follow each other
numbers-at : (i n q : ℕ) → q < n → get_or (axes i n) q 0 ≡ i + q
numbers-at i zero q h = absurd (omega arith)
numbers-at i (suc n) zero h = omega arith
numbers-at i (suc n) (suc q) h = numbers-at (suc i) n q (omega arith) ∙ omega arith

mask_at : (q : ℕ) → q < 8 → get_or (0 ∷ 1 ∷ 2 ∷ 3 ∷ 4 ∷ 5 ∷ 6 ∷ 7 ∷ []) q 0 ≡ q
mask_at q h = numbers-at 0 8 q h ∙ zero-add q

module _ {A : Type 0} (f : ℕ → List A) (w : ℕ) (same : (x : ℕ) → length (f x) ≡ w) where
  each-length : length (each_mask f) ≡ 8 * w
  each-length = flat-length f w same (0 ∷ 1 ∷ 2 ∷ 3 ∷ 4 ∷ 5 ∷ 6 ∷ 7 ∷ [])

  each_at : (q r : ℕ) (e : A) → q < 8 → r < w → get_or (each_mask f) (q * w + r) e ≡ get_or (f q) r e
  each_at q r e h g =
      flat-at f w same (0 ∷ 1 ∷ 2 ∷ 3 ∷ 4 ∷ 5 ∷ 6 ∷ 7 ∷ []) q r 0 e h g ∙ ap (λ (k : ℕ). get_or (f k) r e) (mask_at q h)

-- the lists of the four masks, from the innermost out
abbrev fourth : ℕ → ℕ → ℕ → ℕ → List Masks
fourth l t m c = masks l t m c ∷ []

third : ℕ → ℕ → ℕ → List Masks
third l t m = each_mask (fourth l t m)

second : ℕ → ℕ → List Masks
second l t = each_mask (third l t)

first : ℕ → List Masks
first l = each_mask (second l)

third-length : (l t m : ℕ) → length (third l t m) ≡ 8
unfolding third
third-length l t m = each-length (fourth l t m) 1 (λ c. refl)

second-length : (l t : ℕ) → length (second l t) ≡ 64
unfolding second
second-length l t = each-length (third l t) 8 (third-length l t)

first-length : (l : ℕ) → length (first l) ≡ 512
unfolding first
first-length l = each-length (second l) 64 (second-length l)

pub choices-length : length choices ≡ 4096
unfolding choices first second third
choices-length = each-length first 512 first-length

third_at : (l t m c : ℕ) → c < 8 → get_or (third l t m) c no_masks ≡ masks l t m c
unfolding third
third_at l t m c h =
    let z : c * 1 + 0 ≡ c = omega arith in
    ap (λ (n : ℕ). get_or (third l t m) n no_masks) (sym z) ∙ each_at (fourth l t m) 1 (λ c. refl) c 0 no_masks h (omega arith)

second_at : (l t m c : ℕ) → m < 8 → c < 8 → get_or (second l t) (m * 8 + c) no_masks ≡ masks l t m c
unfolding second
second_at l t m c k h = each_at (third l t) 8 (third-length l t) m c no_masks k h ∙ third_at l t m c h

first-at : (l t m c : ℕ) → t < 8 → m < 8 → c < 8 → get_or (first l) (t * 64 + (m * 8 + c)) no_masks ≡ masks l t m c
unfolding first
first-at l t m c j k h = each_at (second l) 64 (second-length l) t (m * 8 + c) no_masks j (omega arith) ∙ second_at l t m c k h

-- where a choice stands
pub place_of : ℕ → ℕ → ℕ → ℕ → ℕ
place_of l t m c = l * 512 + (t * 64 + (m * 8 + c))

pub entry_place : (l t m c : ℕ) → l < 8 → t < 8 → m < 8 → c < 8 → entry (place_of l t m c) ≡ masks l t m c
unfolding choices place_of first second third
entry_place l t m c i j k h = each_at first 512 first-length l (t * 64 + (m * 8 + c)) no_masks i (omega arith) ∙ first-at l t m c j k h

-- a number's digits
digits : (n : ℕ) → place_of (n / 512) (n / 64 % 8) (n / 8 % 8) (n % 8) ≡ n
unfolding place_of
digits n = omega arith

pub entry_at : (n : ℕ) → n < 4096 → entry n ≡ choice_of n
unfolding choice_of
entry_at n h =
    ap (λ (p : ℕ). entry p) (sym (digits n))
    ∙ entry_place (n / 512) (n / 64 % 8) (n / 8 % 8) (n % 8) (omega arith) (omega arith) (omega arith) (omega arith)

pub entry-1824 : entry 1824 ≡ masks 3 4 4 0
unfolding place_of
entry-1824 = entry_place 3 4 4 0 (omega arith) (omega arith) (omega arith) (omega arith)

-- every entry is a legal choice
pub legal-choice : (n : ℕ) → n < 4096 → Legal (choice_of n)
unfolding choice_of
legal-choice n h = record { locked = omega arith; limit = omega arith; motor = omega arith; coupled = omega arith }

pub legal : (n : ℕ) → n < length choices → Legal (entry n)
legal n h =
    let l : n < 4096 = omega (arith, choices-length) in
    rw (entry_at n l) (legal-choice n l)

-- and every legal choice stands there, just the one time
place : Masks → ℕ
place k = place_of k.locked_axes k.limit_axes k.motor_axes k.coupled_axes

place-choice : (n : ℕ) → place (choice_of n) ≡ n
unfolding place choice_of
place-choice n = digits n

pub once : (k : Masks) → Legal k → Once k
unfolding place place_of
once k h =
    record {
      place = place k;
      inside = omega (arith, choices-length, h.locked, h.limit, h.motor, h.coupled);
      there =
          entry_place k.locked_axes k.limit_axes k.motor_axes k.coupled_axes (omega (arith, h.locked)) (omega (arith, h.limit)) (omega (arith, h.motor))
          (omega (arith, h.coupled));
      only = λ n l e. sym (place-choice n) ∙ ap place (sym (entry_at n (omega (arith, choices-length))) ∙ e);
    }
