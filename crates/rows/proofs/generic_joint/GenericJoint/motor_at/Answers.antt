-- `motor_at` meets its contract: past the last axis the default is read. That the array has three elements is what owning `self` tells of its
-- fifth field.
use mathlib.Core.Path.{sym}
use Prim.Native.Nat.{◌≤◌}
use native.Mathlib.Omega.{arith}
use lib.Ieee.{div, of_bits}
use lib.ListN.{length, get_or-eq_default}
use Rattle.rows.proofs.generic_joint.GenericJoint.motor_at.Goals as goal

pub returns : goal.returns
unfolding div of_bits
returns c =
    let a = c.args in
    let three = c.well_formed.0.1.1.1.1.1.1.0.1.0.1 in
    let past : length a.self.motors ≤ a.axis = omega arith in
    sym (get_or-eq_default a.self.motors _ {n = a.axis} past)
