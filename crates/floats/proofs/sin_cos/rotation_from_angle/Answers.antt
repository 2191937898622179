-- `rotation_from_angle` meets its contract, by the arms on the parts of the angle; each answer is a law of proofs/TurnLaws.antt.
use Rattle.std.proofs.Common.{T, sym, ap, ◌∙◌, subst}
use lib.Ieee.{binary32, fits, of_bits, div}
use Rattle.floats.specs.SinCos.{place_pair, rotation_from_angle_of}
use Rattle.floats.proofs.BitsLaws.{Finite-parts, finite-parts}
use Rattle.floats.proofs.TurnLaws.{finite-angle, nan-angle, infinite-angle}
use Rattle.floats.proofs.sin_cos.rotation_from_angle.Goals as goal
use Rattle.floats.proofs.sin_cos.rotation_from_angle.Goals.{In-Finite, Start}

-- what owning an `f32` tells: the format holds it
held : (c : Start) → T (fits binary32 c.args.angle)
held c = subst T (sym c.well_formed.0.1) tt

-- in the arm of a finite number
finite : (c : In-Finite) → Finite-parts c.args.angle c.in-Finite.negative c.in-Finite.d c.in-Finite.k
finite c =
    finite-parts c.args.angle c.in-Finite.negative c.in-Finite.d c.in-Finite.k (held c.before.before)
    (sym c.parts_of.ensures ∙ c.in-Finite.is)

pub within_turn-requires : goal.within_turn-requires
within_turn-requires c = (finite c).digits

pub returns-in-Nan : goal.returns-in-Nan
unfolding rotation_from_angle_of of_bits div
returns-in-Nan c = nan-angle c.args.angle (sym c.parts_of.ensures ∙ c.in-Nan.is)

pub returns-in-Infinite : goal.returns-in-Infinite
unfolding rotation_from_angle_of of_bits div
returns-in-Infinite c = infinite-angle c.args.angle c.in-Infinite.field-0 (sym c.parts_of.ensures ∙ c.in-Infinite.is)

pub returns-in-Finite : goal.returns-in-Finite
returns-in-Finite c = c.place_pair.ensures ∙ ap (place_pair c.in-Finite.negative) c.within_turn.ensures ∙ sym (finite-angle (finite c.before.before))
