-- Sums and products of vectors, by component. Assumes nothing.
use Rattle.std.proofs.Common.{◌≡◌, refl}
use lib.Ieee.{Float}
use Rattle.floats.specs.Operators.{◌⊕◌, ◌⊖◌, ◌⊗◌}
use Rattle.floats.specs.Vector.{Axis, X, Y, component, add_of, sub_of, mul_of, component_mul_of}
use Rattle.floats.specs.declared.vector.Vector.{Vector}

pub add-component : (i : Axis) (v w : Vector) → component i (add_of v w) ≡ component i v ⊕ component i w
unfolding add_of
add-component X v w = refl
add-component Y v w = refl

pub sub-component : (i : Axis) (v w : Vector) → component i (sub_of v w) ≡ component i v ⊖ component i w
unfolding sub_of
sub-component X v w = refl
sub-component Y v w = refl

pub mul-component : (i : Axis) (v : Vector) (a : Float) → component i (mul_of v a) ≡ component i v ⊗ a
unfolding mul_of
mul-component X v a = refl
mul-component Y v a = refl

pub component-mul-component : (i : Axis) (v w : Vector) → component i (component_mul_of v w) ≡ component i v ⊗ component i w
unfolding component_mul_of
component-mul-component X v w = refl
component-mul-component Y v w = refl
