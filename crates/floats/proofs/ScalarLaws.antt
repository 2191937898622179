-- What `clamp` answers lies within its bounds, where these are in order: it is neither below the lower bound nor above the upper one
-- (`clamp-within`); and it says low or high exactly where it gave that bound for a number beyond it (`clamp-says`). Assumes nothing.
use Rattle.std.proofs.Common.{◌≡◌, ◌*◌, Bool, true, false, cond, not, refl, le_refl, le-ltb}
use mathlib.Core.Bool.{false≢true}
use lib.Ieee.{Float, nan, inf, fin, up, down, lt, is_nan}
use Rattle.floats.specs.Scalar.{clamp_of, side_of, clamped_of, is_finite}
use Rattle.floats.specs.declared.scalar.Side.{Side}
use Rattle.floats.specs.declared.scalar.Side.TheVariants.{Low, High, Inside}

-- neither below low nor above high
abbrev pub Within : Float → Float → Float → Type 0
Within low high x = (lt x low ≡ false) × (lt high x ≡ false)

not-below-itself : (x : Float) → lt x x ≡ false
unfolding lt
not-below-itself nan = refl
not-below-itself (inf true) = refl
not-below-itself (inf false) = refl
not-below-itself (fin true m e) = let n = m * up e * down e in le-ltb n n (le_refl n)
not-below-itself (fin false m e) = let n = m * up e * down e in le-ltb n n (le_refl n)

by_cases : (x low high : Float) → lt high low ≡ false → (b d : Bool) → lt x low ≡ b → lt high x ≡ d → Within low high (cond b low (cond d high x))
by_cases x low high order true d p q = (not-below-itself low, order)
by_cases x low high order false true p q = (order, not-below-itself high)
by_cases x low high order false false p q = (p, q)

pub clamp-within : (x low high : Float) → lt high low ≡ false → Within low high (clamp_of x low high)
unfolding clamp_of
clamp-within x low high order = by_cases x low high order _ _ refl refl

-- ---- the leaf's two answers

pub clamped-value : (x low high : Float) → (clamped_of x low high).value ≡ clamp_of x low high
unfolding clamped_of
clamped-value x low high = refl

pub clamped-side : (x low high : Float) → (clamped_of x low high).side ≡ side_of x low high
unfolding clamped_of
clamped-side x low high = refl

-- low exactly where the lower bound was given for a number below it, high exactly where the upper one was given for a number above it
pub data Says (x low high : Float) : Side → Float → Type 0 where
  below : lt x low ≡ true → Says x low high Low low
  above : lt x low ≡ false → lt high x ≡ true → Says x low high High high
  inside : lt x low ≡ false → lt high x ≡ false → Says x low high Inside x

says : (x low high : Float) (b d : Bool) → lt x low ≡ b → lt high x ≡ d → Says x low high (cond b Low (cond d High Inside)) (cond b low (cond d high x))
says x low high true d p q = below p
says x low high false true p q = above p q
says x low high false false p q = inside p q

pub clamp-says : (x low high : Float) → Says x low high (side_of x low high) (clamp_of x low high)
unfolding side_of clamp_of
clamp-says x low high = says x low high _ _ refl refl

-- ---- finite

pub not-nan : (x : Float) → is_finite x ≡ true → not (is_nan x) ≡ true
unfolding is_finite is_nan
not-nan nan e = absurd (false≢true e)
not-nan (inf s) e = refl
not-nan (fin s m e) h = refl
