-- `angle` meets its contract: for finite re and im t itself with im's sign where it is near zero, and else A to the nearest f32; otherwise NaN.
use Rattle.std.proofs.Common.{ℕ, ◌^◌, ◌<◌, T, sym, ◌∙◌, subst}
use lib.Ieee.{of_bits, div}
use Rattle.floats.specs.Angle.{angle_of}
use Rattle.floats.proofs.Arc.{angle-units-lt}
use Rattle.floats.proofs.angle.angle.Goals as goal
use Rattle.floats.proofs.angle.angle.Goals.{else-is_finite-via-then-is_finite+else-is_finite-2, else-is_finite-via-else-is_finite}

pub returns-then-near_zero : goal.returns-then-near_zero
unfolding angle_of
returns-then-near_zero c =
    simp (sym c.is_finite.ensures ∙ c.if-is_finite.true, sym c.is_finite-then-is_finite.ensures ∙ c.if-is_finite-2.true, sym c.near_zero.ensures ∙ c.if-near_zero.true)
    (cc (c.signed.ensures, c.sign_bit.ensures, c.tangent-t.ensures))

pub units-requires : goal.units-requires
units-requires c =
    (subst T (sym (sym c.is_finite.ensures ∙ c.if-is_finite.true)) tt, subst T (sym (sym c.is_finite-then-is_finite.ensures ∙ c.if-is_finite-2.true)) tt, c.tangent-t.ensures)

pub from_units-requires : goal.from_units-requires
from_units-requires c =
    subst (λ (n : ℕ). n < 2 ^ 32) (sym c.units.ensures)
    (angle-units-lt c.args.re c.args.im (subst T (sym (sym c.is_finite.ensures ∙ c.if-is_finite.true)) tt) (subst T (sym (sym c.is_finite-then-is_finite.ensures ∙ c.if-is_finite-2.true)) tt))

pub returns-then-is_finite-2 : goal.returns-then-is_finite-2
unfolding angle_of
returns-then-is_finite-2 c =
    simp (sym c.is_finite.ensures ∙ c.if-is_finite.true, sym c.is_finite-then-is_finite.ensures ∙ c.if-is_finite-2.true, sym c.near_zero.ensures ∙ c.if-near_zero.false)
    (cc (c.from_units.ensures, c.sign_bit-then-is_finite-2.ensures, c.units.ensures))

pub returns : goal.returns
unfolding angle_of of_bits div
returns c =
    let p = sym c.is_finite.ensures in
    elim c.else-is_finite.branch [ else-is_finite-via-then-is_finite+else-is_finite-2 v ↦ simp (p ∙ v.if-is_finite.true, sym v.is_finite-then-is_finite.ensures ∙ v.if-is_finite-2.false) | else-is_finite-via-else-is_finite v ↦ simp (p ∙ v.if-is_finite.false) ]
