-- `tangent` meets its contract: the ratio of the two magnitudes.
use Rattle.floats.proofs.angle.tangent.Goals as goal

pub returns : goal.returns
returns c = cc (c.ratio.ensures, c.abs-2.ensures, c.abs.ensures)
