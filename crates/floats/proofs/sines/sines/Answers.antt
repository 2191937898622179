-- `sines` meets its contract: the stored table is the list of what the recipe gives, all entries computed and compared at once.
use Rattle.std.proofs.Common.{refl}
use Rattle.floats.specs.Sines.{sum_from, sine_of, sine_entry, listed, sines}
use Rattle.floats.proofs.sines.sines.Goals as goal

pub returns : goal.returns
unfolding sines listed sine_entry sine_of sum_from
returns c = refl
