-- Sums over a joint's rows, as the loop over an array takes them: what the first k rows gave with the rest to come is what all rows give. Assumes nothing.
use Prim.Native.Nat.{ℕ, ◌+◌, ◌≤◌, ◌<◌}
use native.Mathlib.Numerals.{add-one}
use native.Mathlib.Omega.{arith}
use mathlib.Core.Path.{◌≡◌}
use mathlib.Core.List.{List}
use lib.ListN.{length, get_or, take, drop, length-take, drop_of_length-le}
use lib.Seq.{drop-cons, get_or-take}
use Rattle.rows.specs.Reaction.{given_of, given_by}
use Rattle.rows.specs.declared.joint_velocity_constraint.JointConstraint.{JointConstraint}
use Rattle.rows.specs.declared.reaction.BodyImpulses.{BodyImpulses}

pub given-turn : (sums : BodyImpulses) (n k : ℕ) (l : List JointConstraint) (d : JointConstraint) {next : BodyImpulses} → k < length (take n l)
    → next ≡ given_of sums (get_or l k d) → given_by next (drop (k + 1) (take n l)) ≡ given_by sums (drop k (take n l))
unfolding given_by
given-turn sums n k l d h e = rw (drop-cons (take n l) k d h, get_or-take n l k d (omega (arith, h, length-take n l)), e, add-one k)

pub given-done : (sums : BodyImpulses) (k : ℕ) (l : List JointConstraint) → length l ≤ k → given_by sums (drop k l) ≡ sums
unfolding given_by
given-done sums k l h = rw (drop_of_length-le l {i = k} h)
