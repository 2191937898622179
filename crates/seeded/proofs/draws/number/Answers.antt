use Rattle.std.proofs.Common.{le-ltb, lt-ltb}
use Rattle.seeded.specs.Draws.{eighths, number_of}
use Rattle.seeded.proofs.draws.number.Goals as goal

pub returns-then-k-lt1000 : goal.returns-then-k-lt1000
unfolding number_of eighths
returns-then-k-lt1000 c = simp (c.nearest_u32_to_f32.ensures, lt-ltb _ _ c.if-k-lt1000.true)

pub returns-else-k-lt1000 : goal.returns-else-k-lt1000
unfolding number_of eighths
returns-else-k-lt1000 c = simp (c.nearest_u32_to_f32-else-k-lt1000.ensures, le-ltb _ _ c.if-k-lt1000.false)
