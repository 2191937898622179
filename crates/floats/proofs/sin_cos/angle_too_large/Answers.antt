-- `angle_too_large` meets its contract: the comparison of what `abs` promises.
use Rattle.std.proofs.Common.{ap}
use lib.Ieee.{lt}
use Rattle.floats.specs.Constants.{largest_angle}
use Rattle.floats.specs.SinCos.{angle_too_large}
use Rattle.floats.proofs.sin_cos.angle_too_large.Goals as goal

pub returns : goal.returns
unfolding angle_too_large
returns c = ap (lt largest_angle) c.abs.ensures
