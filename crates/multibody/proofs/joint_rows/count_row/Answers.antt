-- `count_row` meets its contract, by the cases of the side.
use native.Mathlib.Omega.{arith}
use borrow.Author.Tests.{lt-ltb, le-ltb}
use Rattle.multibody.specs.JointRows.{at_bound, count_row}
use Rattle.multibody.proofs.joint_rows.count_row.Goals as goal

pub returns-then-i-motors : goal.returns-then-i-motors
unfolding count_row
returns-then-i-motors g c = record { value = simp (le-ltb _ _ c.if-i-motors.true); upper_bound = omega arith }

pub returns-in-Low : goal.returns-in-Low
unfolding count_row at_bound
returns-in-Low g c = record { value = simp (c.in-Low.is, lt-ltb _ _ c.if-i-motors.false); upper_bound = omega arith }

pub returns-in-High : goal.returns-in-High
unfolding count_row at_bound
returns-in-High g c = record { value = simp (c.in-High.is, lt-ltb _ _ c.if-i-motors.false); upper_bound = omega arith }

pub returns-in-Inside : goal.returns-in-Inside
unfolding count_row at_bound
returns-in-Inside g c = record { value = simp (c.in-Inside.is, lt-ltb _ _ c.if-i-motors.false); upper_bound = omega arith }
