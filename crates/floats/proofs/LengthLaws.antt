-- The length of a vector is NaN, infinite, +0, or the correctly rounded root of its dot with itself (`length-is`): that dot is a number of binary32, and not negative.
use Rattle.std.proofs.Common.{◌≡◌, zero, suc, ◌+◌, ◌*◌, ◌^◌, Bool, true, false, T, ℤ, pos, negsuc, refl, ap, ◌∙◌, subst, zero-lt-suc, arith, eqb→eq}
use native.Mathlib.Nat.{two-pow-succ}
use lib.Ieee.{Float, nan, inf, fin, binary32, up, down, unlike, sum, add, mul, fits}
use lib.Ieee.Fits.{add-fits}
use Rattle.floats.specs.Operators.{◌⊕◌, ◌⊗◌}
use Rattle.floats.specs.Sign.{sign_bit}
use Rattle.floats.specs.Sqrt.{sqrt_of}
use Rattle.floats.specs.Vector.{gdot_of, length_of}
use Rattle.floats.specs.CorrectlyRounded.{LengthIs, not_a_number, infinite, zero as plus-zero, rounded}
use Rattle.floats.specs.declared.vector.Vector.{Vector}
use Rattle.floats.proofs.Values.{round-sign}
use Rattle.floats.proofs.SqrtNearest.{sqrt-nearest}

-- ---- the sign of the dot

like : (s : Bool) → unlike s s ≡ false
like true = refl
like false = refl

square-sign : (x : Float) → sign_bit (x ⊗ x) ≡ false
unfolding mul sign_bit
square-sign nan = refl
square-sign (inf s) = like s
square-sign (fin s m e) = round-sign binary32 (unlike s s) (m * up e * (m * up e)) (down e * down e) ∙ like s

sum-sign : (x y : Float) → sign_bit x ≡ false → sign_bit y ≡ false → sign_bit (x ⊕ y) ≡ false
unfolding add sum sign_bit
sum-sign nan y p q = refl
sum-sign (inf s) nan p q = refl
sum-sign (inf false) (inf false) p q = refl
sum-sign (inf true) (inf t) p q = cc
sum-sign (inf false) (inf true) p q = cc
sum-sign (inf s) (fin t n d) p q = p
sum-sign (fin s m e) nan p q = refl
sum-sign (fin s m e) (inf t) p q = q
sum-sign (fin false m e) (fin false n d) p q =
    round-sign binary32 false (m * up e * down d + n * up d * down e) (down e * down d)
sum-sign (fin true m e) (fin t n d) p q = cc
sum-sign (fin false m e) (fin true n d) p q = cc

-- ---- the root of a number that is not negative

zero_exponent : (e : ℤ) → up e * down e ≡ 1 → e ≡ pos 0
zero_exponent (pos zero) h = refl
zero_exponent (pos (suc k)) h = absurd (no (omega (arith, two-pow-succ k)))
  where
    no : 2 ^ k + 2 ^ k ≡ 1 → ⊥
    no h = omega arith
zero_exponent (negsuc k) h = absurd (no (omega (arith, two-pow-succ k)))
  where
    no : 2 ^ k + 2 ^ k ≡ 1 → ⊥
    no h = omega arith

root-cases : (v : Vector) (d : Float) → gdot_of v v ≡ d → T (fits binary32 d) → sign_bit d ≡ false → LengthIs v (sqrt_of d)
unfolding sign_bit
root-cases v nan is f s = not_a_number is (unfold sqrt_of in refl)
root-cases v (inf true) is f s = absurd (subst T s tt)
root-cases v (inf false) is f s = infinite is (unfold sqrt_of in refl)
root-cases v (fin true m e) is f s = absurd (subst T s tt)
root-cases v (fin false zero e) is f s =
    let z = zero_exponent e (eqb→eq (up e * down e) 1 (unfold fits in f)) in
    plus-zero (is ∙ ap (fin false 0) z) (unfold sqrt_of in ap (fin false 0) z)
root-cases v (fin false (suc m) e) is f s = rounded (suc m) e is (zero-lt-suc m) (sqrt-nearest (suc m) e f (zero-lt-suc m))

pub length-is : (v : Vector) → LengthIs v (length_of v)
unfolding length_of gdot_of
length-is v =
    root-cases v (gdot_of v v) refl (add-fits binary32 _ _)
    (sum-sign (v.x ⊗ v.x) (v.y ⊗ v.y) (square-sign v.x) (square-sign v.y))
