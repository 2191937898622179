-- Rule 6's lists, part by part (`passes_then`) and place by place (`passes_at`, `passes-intro`), and as a loop tries so many numbers of one kind (`run-next`, `run-over`). A finite number passes everywhere, and every number passes at a free
-- place. Stated once, over the list.
use Prim.Native.Nat.{ℕ, zero, suc, ◌+◌, ◌-◌, ◌≤◌, ◌<◌}
use mathlib.Core.Path.{◌≡◌, refl, sym, ap, ◌∙◌}
use mathlib.Core.Bool.{Bool, true, false, not, ◌&&◌, false≢true}
use mathlib.Core.List.{List, [], ◌∷◌, ◌++◌}
use native.Mathlib.Nat.{add-zero, add_assoc}
use native.Mathlib.Omega.{arith}
use lib.ListN.{length, get_or, replicate, get_or-replicate, length-replicate, get_or-append}
use lib.Ieee.{Float, nan, is_nan}
use Rattle.floats.specs.Scalar.{is_finite}
use Rattle.floats.proofs.ScalarLaws.{not-nan}
use Rattle.multibody.specs.Finite.{Asks, passes, passes_from, limit_asks, motor_asks, thrice}
use Rattle.multibody.specs.Finite.Asks.{finite, no_nan, free}
use Rattle.multibody.proofs.RuleLaws.{both}

-- ---- one number

-- a limit end or a maximum force may be infinite
pub end-tried : (x : Float) → passes no_nan x ≡ not (is_nan x)
unfolding passes
end-tried x = refl

pub finite-passes : (a : Asks) (x : Float) → is_finite x ≡ true → passes a x ≡ true
unfolding passes
finite-passes finite x e = e
finite-passes no_nan x e = not-nan x e
finite-passes free x e = refl

abbrev pub is_free : Asks → Bool
is_free finite = false
is_free no_nan = false
is_free free = true

pub free-passes : (a : Asks) (x : Float) → is_free a ≡ true → passes a x ≡ true
unfolding passes
free-passes finite x e = absurd (false≢true e)
free-passes no_nan x e = absurd (false≢true e)
free-passes free x e = refl

-- ---- parts one after the other

and_parts : (a b c : Bool) → (a && (b && c)) ≡ (a && b && c)
and_parts true b c = refl
and_parts false b c = refl

pub passes_then : (asks bs : List Asks) (s : List Float) (o p : ℕ) → o + length asks ≡ p → passes_from (asks ++ bs) s o ≡ (passes_from asks s o && passes_from bs s p)
unfolding passes_from
passes_then [] bs s o p e = ap (passes_from bs s) (sym (add-zero o) ∙ e)
passes_then (a ∷ asks) bs s o p e = rw (passes_then asks bs s (o + 1) p (omega arith)) (and_parts (passes a (get_or s o nan)) (passes_from asks s (o + 1)) (passes_from bs s p))

-- free places at the end are not tried
pub free-last : (asks : List Asks) (n : ℕ) (s : List Float) (o : ℕ) → passes_from (asks ++ replicate n free) s o ≡ passes_from asks s o
unfolding passes_from passes
free-last [] zero s o = refl
free-last [] (suc n) s o = free-last [] n s (o + 1)
free-last (a ∷ asks) n s o = rw (free-last asks n s (o + 1))

-- three axes' limits: two ends of each; a motor: four numbers and the maximum force; three axes' motors
module _ (s : List Float) where
  thrice-then : (asks : List Asks) (o p q : ℕ) → o + length asks ≡ p → p + length asks ≡ q → passes_from (thrice asks) s o ≡ (passes_from asks s o && (passes_from asks s p && passes_from asks s q))
  thrice-then asks o p q e d = passes_then asks (asks ++ asks) s o p e ∙ ap (λ t. passes_from asks s o && t) (passes_then asks asks s p q d)

  limit-tried : (o : ℕ) → passes_from limit_asks s o ≡ passes_from (replicate 2 no_nan) s o
  limit-tried o = free-last (replicate 2 no_nan) 1 s o

  pub limits-tried : (o p q : ℕ) → o + 3 ≡ p → p + 3 ≡ q
      → passes_from (thrice limit_asks) s o ≡ (passes_from (replicate 2 no_nan) s o && (passes_from (replicate 2 no_nan) s p && passes_from (replicate 2 no_nan) s q))
  limits-tried o p q e d = thrice-then limit_asks o p q e d ∙ rw (limit-tried o, limit-tried p, limit-tried q)

  pub motor-tried : (o : ℕ) → passes_from motor_asks s o ≡ (passes_from (replicate 4 finite) s o && passes_from (replicate 1 no_nan) s (o + 4))
  motor-tried o = passes_then (replicate 4 finite) (no_nan ∷ free ∷ []) s o (o + 4) refl ∙ ap (λ t. passes_from (replicate 4 finite) s o && t) (free-last (replicate 1 no_nan) 1 s (o + 4))

  pub motors-tried : (o p q : ℕ) → o + 6 ≡ p → p + 6 ≡ q → passes_from (thrice motor_asks) s o ≡ (passes_from motor_asks s o && (passes_from motor_asks s p && passes_from motor_asks s q))
  motors-tried = thrice-then motor_asks

-- ---- a loop over n numbers of one kind from place o on, that tries each, whatever the others are: its turn, and its end

module _ (a : Asks) (s : List Float) where
  pub run-next : (t : Bool) (o n i : ℕ) → i < n
      → (t && passes a (get_or s (o + i) nan) && passes_from (replicate (n - (i + 1)) a) s (o + (i + 1))) ≡ (t && passes_from (replicate (n - i) a) s (o + i))
  unfolding passes_from
  run-next true o n i h =
      let more : n - i ≡ suc (n - (i + 1)) = omega arith in
      rw (more, ← add_assoc o i 1)
  run-next false o n i h = refl

  pub run-over : (t : Bool) (k n i : ℕ) → n ≤ i → (t && passes_from (replicate (n - i) a) s k) ≡ t
  unfolding passes_from
  run-over true k n i h =
      let none : n - i ≡ 0 = omega arith in
      rw none
  run-over false k n i h = refl

-- ---- place by place

pub passes_at : (asks : List Asks) (s : List Float) (o : ℕ) → passes_from asks s o ≡ true → (c : ℕ) → c < length asks → passes (get_or asks c free) (get_or s (o + c) nan) ≡ true
unfolding passes_from
passes_at [] s o e c h = absurd (omega arith)
passes_at (a ∷ asks) s o e zero h = rw add-zero (both (passes a (get_or s o nan)) (passes_from asks s (o + 1)) e).0
passes_at (a ∷ asks) s o e (suc c) h =
    let q : o + suc c ≡ o + 1 + c = omega arith in
    rw q (passes_at asks s (o + 1) (both (passes a (get_or s o nan)) (passes_from asks s (o + 1)) e).1 c (omega arith))

pub passes-intro : (asks : List Asks) (s : List Float) (o : ℕ) → ((c : ℕ) → c < length asks → passes (get_or asks c free) (get_or s (o + c) nan) ≡ true) → passes_from asks s o ≡ true
unfolding passes_from
passes-intro [] s o h = refl
passes-intro (a ∷ asks) s o h =
    rw (rw add-zero at (h zero (omega arith)), passes-intro asks s (o + 1) (λ c l. let q : o + suc c ≡ o + 1 + c = omega arith in rw q at (h (suc c) (omega arith))))

-- of the first n numbers, where a list asks that they are finite
pub front-finite : (n : ℕ) (asks : List Asks) (c : ℕ) → c < n → get_or (replicate n finite ++ asks) c free ≡ finite
front-finite n asks c h = get_or-append (replicate n finite) asks free c (rw length-replicate h) ∙ get_or-replicate n c finite free h
