-- `held` meets its contract: the array has six places, which is what owning it tells.
use native.Mathlib.Omega.{arith}
use lib.ListN.{length-take}
use Rattle.rows.proofs.reaction.held.Goals as goal

pub returns : goal.returns
returns c =
    let six = c.well_formed.0.1.1.0.1.0.1 in
    omega (arith, c.min.ensures, length-take c.args.rows.len c.args.rows.rows, six)
