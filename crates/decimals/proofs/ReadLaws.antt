-- The reading of a decimal from its digits and its exponent, which the program holds up to 10^19 each.
use mathlib.Core.Path.{◌≡◌, refl, sym, ap, ◌∙◌}
use mathlib.Core.Logic.{inl, inr}
use mathlib.Core.Bool.{Bool, true, false, cond}
use mathlib.Core.List.{List, [], ◌∷◌}
use Prim.Native.Nat.{ℕ, ◌+◌, ◌^◌, ◌≤◌, ◌<◌}
use native.Mathlib.Omega.{arith}
use borrow.Author.Tests.{lt-ltb, le-ltb}
use lib.Dec.{eqb}
use lib.IntN.{pos}
use lib.Ieee.{Float, inf, fin, binary32, of_bits, neg, div}
use Rattle.decimals.specs.Rounding.{decimal_of}
use Rattle.decimals.specs.Words.{digits_count, digits_value, after_digits, decimal_read, exponent_digits, exponent_sign, exponent_part, point_digits, no_point}
use Rattle.decimals.specs.Capped.{cap}
use Rattle.decimals.specs.Words.{Reading}
use Rattle.std.proofs.Common.{Ok, Err}
use Rattle.decimals.specs.declared.number.NumberFault.TheVariants.{TooManyDigits, NotANumber}
use Rattle.decimals.proofs.PatternLaws.{side}
use Rattle.decimals.proofs.CapLaws.{cap-small, cap-large, cap-digits}
use Rattle.decimals.proofs.DecimalLaws.{negated, far-down, far-up}

-- ---- the program's constants
pub float_zero : of_bits binary32 0 ≡ fin false 0 (pos 0)
unfolding of_bits
float_zero = refl

pub float-infinity : of_bits binary32 0x7f800000 ≡ inf false
unfolding div of_bits
float-infinity = refl

-- ---- the reading, case by case
signed_is : (s : Bool) (w a b : ℕ) → cond s (neg (decimal_of false w a b)) (decimal_of false w a b) ≡ decimal_of s w a b
signed_is true w a b = negated w a b
signed_is false w a b = refl

module _ (s : Bool) (w f e : ℕ) where
  pub read-many : (down : Bool) → 10 ^ 19 ≤ w → (Err TooManyDigits) ≡ decimal_read s w f down e
  unfolding decimal_read
  read-many down h =
      sym (ap (λ (t : Bool). cond t (Ok (cond down (decimal_of s w 0 (f + e)) (decimal_of s w e f))) (Err TooManyDigits)) (le-ltb w (10 ^ 19) h))

  number_is : (down : Bool) → w < 10 ^ 19 → Ok (cond down (decimal_of s w 0 (f + e)) (decimal_of s w e f)) ≡ decimal_read s w f down e
  unfolding decimal_read
  number_is down h =
      sym (ap (λ (t : Bool). cond t (Ok (cond down (decimal_of s w 0 (f + e)) (decimal_of s w e f))) (Err TooManyDigits)) (lt-ltb w (10 ^ 19) h))

  pub read_down : (x : Float) → w < 10 ^ 19 → x ≡ decimal_of false w 0 (f + e) → Ok (cond s (neg x) x) ≡ decimal_read s w f true e
  read_down x h p = ap (λ (y : Float). Ok (cond s (neg y) y)) p ∙ ap Ok (signed_is s w 0 (f + e)) ∙ number_is true h

  pub read_up : (x : Float) → w < 10 ^ 19 → x ≡ decimal_of false w e f → Ok (cond s (neg x) x) ≡ decimal_read s w f false e
  read_up x h p = ap (λ (y : Float). Ok (cond s (neg y) y)) p ∙ ap Ok (signed_is s w e f) ∙ number_is false h

-- ---- digits and exponents that are counted up to 10^19
pub read-cap : (s : Bool) (w f : ℕ) (down : Bool) (e : ℕ) → decimal_read s (cap w) f down e ≡ decimal_read s w f down e
read-cap s w f down e =
    elim (side w (10 ^ 19)) [
      | inl l ↦ ap (λ (x : ℕ). decimal_read s x f down e) (cap-small w l)
      | inr g ↦ sym (read-many s (cap w) f e down (omega (arith, cap-large w g))) ∙ read-many s w f e down g
    ]

pub exponent-cap : (s : Bool) (w f : ℕ) (down : Bool) (e : ℕ) → f < 2 ^ 63 → decimal_read s w f down (cap e) ≡ decimal_read s w f down e
exponent-cap s w f down e room =
    elim (side e (10 ^ 19)) [
      | inl l ↦ ap (λ (x : ℕ). decimal_read s w f down x) (cap-small e l)
      | inr g ↦ elim (side w (10 ^ 19)) [ inl h ↦ far h g down | inr m ↦ sym (read-many s w f (cap e) down m) ∙ read-many s w f e down m ]
    ]
  where
    far : w < 10 ^ 19 → 10 ^ 19 ≤ e → (down : Bool) → decimal_read s w f down (cap e) ≡ decimal_read s w f down e
    far h g true =
        sym (number_is s w f (cap e) true h) ∙ ap Ok (far-down s w (f + cap e) (f + e) h (omega (arith, cap-large e g)) (omega arith)) ∙ number_is s w f e true h
    far h g false =
        sym (number_is s w f (cap e) false h) ∙ ap Ok (far-up s w (cap e) e f (omega (arith, cap-large e g)) (omega arith)) ∙ number_is s w f e false h

digits-cap : (s : Bool) (w f : ℕ) (down : Bool) (bs : List ℕ) → exponent_digits s (cap w) f down bs ≡ exponent_digits s w f down bs
unfolding exponent_digits
digits-cap s w f down bs = simp read-cap

sign-cap : (s : Bool) (w f : ℕ) (bs : List ℕ) → exponent_sign s (cap w) f bs ≡ exponent_sign s w f bs
unfolding exponent_sign
sign-cap s w f [] = refl
sign-cap s w f (b ∷ bs) = simp digits-cap

pub part-cap : (s : Bool) (w f : ℕ) (bs : List ℕ) → exponent_part s (cap w) f bs ≡ exponent_part s w f bs
unfolding exponent_part
part-cap s w f [] = read-cap s w f false 0
part-cap s w f (b ∷ bs) = simp sign-cap

pub point-cap : (s : Bool) (n w : ℕ) (bs : List ℕ) → point_digits s n (cap w) bs ≡ point_digits s n w bs
unfolding point_digits
point-cap s n w bs =
    ap (λ (r : Reading). cond (eqb (n + digits_count bs) 0) (Err NotANumber) r)
    (sym (part-cap s (digits_value (cap w) bs) (digits_count bs) (after_digits bs))
    ∙ ap (λ (x : ℕ). exponent_part s x (digits_count bs) (after_digits bs)) (cap-digits w bs)
    ∙ part-cap s (digits_value w bs) (digits_count bs) (after_digits bs))

pub no-point-cap : (s : Bool) (n w : ℕ) (bs : List ℕ) → no_point s n (cap w) bs ≡ no_point s n w bs
unfolding no_point
no-point-cap s n w bs = simp part-cap
