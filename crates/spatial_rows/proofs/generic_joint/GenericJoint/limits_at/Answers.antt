-- `limits_at` meets its contract: past the last axis the default is read. That the array has three elements is what owning `self` tells of its
-- fourth field.
use mathlib.Core.Path.{sym}
use Prim.Native.Nat.{◌≤◌}
use native.Mathlib.Omega.{arith}
use lib.Ieee.{div, of_bits}
use lib.ListN.{length, get_or-eq_default}
use Rattle.spatial_rows.proofs.generic_joint.GenericJoint.limits_at.Goals as goal

pub returns : goal.returns
unfolding div of_bits
returns c =
    let past : length c.args.self.limits ≤ c.args.axis = omega arith in
    sym (get_or-eq_default c.args.self.limits _ {n = c.args.axis} past)
