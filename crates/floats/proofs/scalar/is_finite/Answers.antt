-- `is_finite` meets its contract: only a finite value lies strictly between the two infinities.
use Rattle.std.proofs.Common.{◌≡◌, true, false, sym, refl, ◌∙◌}
use lib.Ieee.{Float, nan, inf, fin, lt, neg}
use Rattle.floats.specs.Scalar.{is_finite}
use Rattle.floats.proofs.scalar.is_finite.Goals as goal

above : (x : Float) → lt (neg (inf false)) x ≡ true → lt x (inf false) ≡ is_finite x
unfolding lt neg is_finite
above nan t = refl
above (inf true) t = sym t
above (inf false) t = refl
above (fin s m e) t = refl

not-above : (x : Float) → lt (neg (inf false)) x ≡ false → false ≡ is_finite x
unfolding lt neg is_finite
not-above nan t = refl
not-above (inf true) t = refl
not-above (inf false) t = refl
not-above (fin s m e) t = sym t

pub returns-then-infinity-x : goal.returns-then-infinity-x
returns-then-infinity-x c = let r = c.infinity-infinity.ensures in rw r (above _ (rw r at c.if-infinity-x.true))

pub returns-else-infinity-x : goal.returns-else-infinity-x
returns-else-infinity-x c = c.if-infinity-x.false ∙ not-above _ (rw c.infinity-infinity.ensures at c.if-infinity-x.false)
