-- Document 01, "Stand-ins": vectors of the plane, and the angular inertia.
use Rattle.std.specs.Prelude.{Float}
use Rattle.std.specs.Float.Ieee.{neg}
use Rattle.floats.specs.Operators.{◌⊕◌, ◌⊖◌, ◌⊗◌}
use Rattle.floats.specs.Sqrt.{sqrt_of}
use Rattle.floats.specs.declared.vector.Vector.{Vector}

-- the two axes of the plane, and a vector's component along one
pub data Axis : Type 0 where
  X Y : Axis

abbrev pub component : Axis → Vector → Float
component X v = v.x
component Y v = v.y

unfoldable pub add_of : Vector → Vector → Vector
add_of v w = record { x = v.x ⊕ w.x; y = v.y ⊕ w.y }

unfoldable pub sub_of : Vector → Vector → Vector
sub_of v w = record { x = v.x ⊖ w.x; y = v.y ⊖ w.y }

-- a vector times a number
unfoldable pub mul_of : Vector → Float → Vector
mul_of v a = record { x = v.x ⊗ a; y = v.y ⊗ a }

-- dot: two products, one sum
unfoldable pub gdot_of : Vector → Vector → Float
gdot_of v w = v.x ⊗ w.x ⊕ v.y ⊗ w.y

-- the cross matrix of (p, q) is (−q, p)
unfoldable pub gcross_matrix_of : Vector → Vector
gcross_matrix_of v = record { x = neg v.y; y = v.x }

-- component product
unfoldable pub component_mul_of : Vector → Vector → Vector
component_mul_of v w = record { x = v.x ⊗ w.x; y = v.y ⊗ w.y }

-- length: the correctly rounded root of the dot
unfoldable pub length_of : Vector → Float
length_of v = sqrt_of (gdot_of v v)

-- angular inertia multiplies; the Rust has the vector on the left
unfoldable pub transform_vector_of : Float → Float → Float
transform_vector_of ii pt = pt ⊗ ii
