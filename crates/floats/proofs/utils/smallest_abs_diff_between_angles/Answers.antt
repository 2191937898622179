-- `smallest_abs_diff_between_angles` meets its contract: each answer is the case that the comparison of the two sizes left.
use Rattle.std.proofs.Common.{◌≡◌, Bool, true, false}
use lib.Ieee.{Float, lt}
use Rattle.floats.specs.Operators.{◌⊖◌, ◌⊗◌}
use Rattle.floats.specs.Sign.{abs_of, signum_of}
use Rattle.floats.specs.Constants.{two_pi}
use Rattle.floats.specs.Utils.{complement_of, smallest_abs_diff_between_angles_of}
use Rattle.floats.proofs.utils.smallest_abs_diff_between_angles.Goals as goal

-- the test, from what the callees promise
test : (s g x y : Float) (b : Bool) → g ≡ signum_of s → x ≡ abs_of s → y ≡ abs_of (s ⊖ g ⊗ two_pi) → lt x y ≡ b → lt (abs_of s) (abs_of (complement_of s)) ≡ b
test s g x y b eg ex ey h = cc

pub returns-then-abs : goal.returns-then-abs
unfolding smallest_abs_diff_between_angles_of
returns-then-abs c =
    let d = c in
    let e = d in
    simp (test _ _ _ _ true e.signum.ensures e.abs.ensures d.abs-2.ensures c.if-abs.true)

pub returns : goal.returns
unfolding smallest_abs_diff_between_angles_of
returns c =
    let d = c in
    let e = d in
    simp (test _ _ _ _ false e.signum.ensures e.abs.ensures d.abs-2.ensures c.if-abs.false, e.signum.ensures)
