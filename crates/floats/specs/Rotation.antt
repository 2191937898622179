-- Document 01, "Stand-ins": a rotation of the plane is (re, im), the cosine and the sine of its angle.
use Rattle.std.specs.Prelude.{ℕ, cond, ◌==◌}
use Rattle.std.specs.Float.Ieee.{neg}
use Rattle.floats.specs.Operators.{◌⊕◌, ◌⊖◌, ◌⊗◌}
use Rattle.floats.specs.declared.vector.Vector.{Vector}
use Rattle.floats.specs.declared.rotation_ops.Rotation.{Rotation}
use Rattle.floats.specs.declared.rotation_ops.Matrix.{Matrix}

-- rotation product of (a, b) and (c, d): (ac − bd, ad + bc)
unfoldable pub product_of : Rotation → Rotation → Rotation
product_of p q = record { re = p.re ⊗ q.re ⊖ p.im ⊗ q.im; im = p.re ⊗ q.im ⊕ p.im ⊗ q.re }

-- inverse: (a, −b)
unfoldable pub inverse_of : Rotation → Rotation
inverse_of p = record { re = p.re; im = neg p.im }

-- (x, y) rotated by (a, b): (ax − by, bx + ay)
unfoldable pub rotate_of : Rotation → Vector → Vector
rotate_of p v = record { x = p.re ⊗ v.x ⊖ p.im ⊗ v.y; y = p.im ⊗ v.x ⊕ p.re ⊗ v.y }

-- the Rust's `to_mat`: the columns (re, im) and (−im, re)
unfoldable pub to_mat_of : Rotation → Matrix
to_mat_of p = record {
  x_axis = record { x = p.re; y = p.im };
  y_axis = record { x = neg p.im; y = p.re };
}

-- column 0, or else column 1
unfoldable pub column_of : Matrix → ℕ → Vector
column_of m i = cond (i == 0) m.x_axis m.y_axis
