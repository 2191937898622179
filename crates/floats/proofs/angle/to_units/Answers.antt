-- `to_units` meets its contract: the product is exact, and the cast takes its whole part.
use Rattle.std.proofs.Common.{T, sym, ◌∙◌, subst}
use lib.Ieee.{of_bits}
use Rattle.floats.proofs.WholeUnits.{Casts, whole-units}
use Rattle.floats.proofs.angle.to_units.Goals as goal
use Rattle.floats.proofs.angle.to_units.Goals.{Start}

casts : (c : Start) → Casts c.args.t
casts c = whole-units c.args.t c.requires (subst T (sym c.well_formed.0.1) tt)

pub truncating_f32_to_u64-requires : goal.truncating_f32_to_u64-requires
unfolding of_bits
truncating_f32_to_u64-requires c = let u = casts c in record { lower_bound = u.0; upper_bound = u.1 }

pub returns : goal.returns
unfolding of_bits
returns c = c.truncating_f32_to_u64.ensures ∙ (casts c.before).2
