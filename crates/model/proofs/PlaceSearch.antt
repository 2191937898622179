-- The first test that fails, as the program looks for it: test by test in a loop (`test-holds`, `test-fails`), list by list in a loop (`next-list`, `this-list`), and lists one after the other (`first_part`, `later-part`). And what rule 6 asks of each number as letters
-- (`by-letters`).
use Prim.Native.Nat.{ℕ, zero, suc, ◌+◌, ◌-◌, ◌≤◌, ◌<◌}
use mathlib.Core.Path.{◌≡◌, refl, sym, ap, ◌∙◌}
use mathlib.Core.Bool.{Bool, true, false, not, cond}
use mathlib.Core.List.{List, [], ◌∷◌, ◌++◌, map}
use native.Mathlib.Omega.{arith}
use lib.Dec.{eqb}
use lib.ListN.{get_or, replicate, get_or-append}
use lib.Ieee.{Float, is_nan}
use Rattle.std.specs.Prelude.{Option, Some, None, is_some}
use Rattle.floats.specs.Scalar.{is_finite}
use Rattle.multibody.specs.Finite.{Asks, passes, limit_asks, motor_asks, thrice}
use Rattle.multibody.specs.Finite.Asks.{finite, no_nan, free}
use Rattle.multibody.proofs.Tests.{by_cases}
use Rattle.model.specs.Layout.{limits_place}
use Rattle.model.specs.Refusals.{joint_asks}
use Rattle.model.specs.declared.refusal_place.Place.{Place}
use Rattle.model.specs.RefusalPlace.{Test, at, broken, each}
use Rattle.model.proofs.RefusalPlaceLaws.{broken-later, broken-here}

-- ---- lists one after the other

broken-append : (ts us : List Test) → broken (ts ++ us) ≡ cond (is_some (broken ts)) (broken ts) (broken us)
unfolding broken
broken-append [] us = refl
broken-append (t ∷ ts) us = by_cases t.holds (λ h. rw h (broken-append ts us)) (λ h. rw h)

-- the first list has the place; or nothing is broken in it, and the second decides
module _ (ts us : List Test) {p : Option Place} (e : p ≡ broken ts) where
  pub first_part : is_some p ≡ true → p ≡ broken (ts ++ us)
  first_part h = e ∙ sym (broken-append ts us ∙ rw (rw e at h))

  pub later-part : is_some p ≡ false → broken us ≡ broken (ts ++ us)
  later-part h = sym (broken-append ts us ∙ rw (rw e at h))

-- ---- a loop over lists of tests, up to before the last: before turn i, those from i on decide

module _ (f : ℕ → List Test) (ts : List Test) (last i : ℕ) where
  abbrev pub Unfound : Type 0
  Unfound = (i ≤ last) × (broken (each i (last - i) f) ≡ broken ts)

  one_more : i < last → each i (last - i) f ≡ f i ++ each (i + 1) (last - (i + 1)) f
  unfolding each
  one_more h =
      let more : last - i ≡ suc (last - (i + 1)) = omega arith in
      rw more

  pub none_left : Unfound → last ≤ i → None ≡ broken ts
  unfolding each broken
  none_left u h =
      let none : last - i ≡ 0 = omega arith in
      rw none at u.1

  pub this-list : Unfound → i < last → {p : Option Place} → p ≡ broken (f i) → is_some p ≡ true → p ≡ broken ts
  this-list u h e n = first_part (f i) _ e n ∙ ap broken (sym (one_more h)) ∙ u.1

pub next-list : (f : ℕ → List Test) (ts : List Test) (last i : ℕ) → Unfound f ts last i → i < last → {p : Option Place} → p ≡ broken (f i) → is_some p ≡ false → Unfound f ts last (i + 1)
next-list f ts last i u h e n = (omega arith, later-part (f i) _ e n ∙ ap broken (sym (one_more f ts last i h)) ∙ u.1)

-- a loop over tests of single words or numbers
module _ (pl : ℕ → Place) (p : ℕ → Bool) (ts : List Test) (last i : ℕ) where
  abbrev single : ℕ → List Test
  single c = at (pl c) (p c)

  pub test-holds : Unfound single ts last i → i < last → p i ≡ true → Unfound single ts last (i + 1)
  test-holds u h e = (omega arith, sym (ap broken (one_more single ts last i h) ∙ broken-later _ _ e) ∙ u.1)

  pub test-fails : Unfound single ts last i → i < last → p i ≡ false → Some (pl i) ≡ broken ts
  test-fails u h e = sym (ap broken (one_more single ts last i h) ∙ broken-here _ _ e) ∙ u.1

-- ---- what rule 6 asks, as letters

abbrev letter : Asks → ℕ
letter finite = 102
letter no_nan = 110
letter free = 45

abbrev letter_passes : ℕ → Float → Bool
letter_passes a x = cond (eqb a 102) (is_finite x) (cond (eqb a 110) (not (is_nan x)) true)

pub by-letters : (asks : List Asks) (c : ℕ) (x : Float) → letter_passes (get_or (map letter asks) c 0) x ≡ passes (get_or asks c free) x
unfolding passes
by-letters [] c x = refl
by-letters (finite ∷ asks) zero x = refl
by-letters (no_nan ∷ asks) zero x = refl
by-letters (free ∷ asks) zero x = refl
by-letters (a ∷ asks) (suc c) x = by-letters asks c x

-- a joint's numbers but the last
abbrev front_asks : List Asks
front_asks = replicate limits_place finite ++ (thrice limit_asks ++ (thrice motor_asks ++ (replicate 2 finite ++ (replicate 3 free ++ (finite ∷ [])))))

pub joint-letters : (choice c : ℕ) (x : Float) → c < 41 → letter_passes (get_or (map letter front_asks) c 0) x ≡ passes (get_or (joint_asks choice) c free) x
joint-letters choice c x h = by-letters front_asks c x ∙ ap (λ a. passes a x) (sym (get_or-append front_asks (cond (eqb choice 0) finite free ∷ []) free c h))

-- and the last
pub joint-last : (choice c : ℕ) (x : Float) → 41 ≤ c → c < 42 → cond (eqb choice 0) (is_finite x) true ≡ passes (get_or (joint_asks choice) c free) x
unfolding passes
joint-last choice c x h g =
    let q : c ≡ 41 = omega arith in
    rw q (by_cases (eqb choice 0) (λ e. rw e) (λ e. rw e))
