-- Quaternions, turned vectors, columns, derivatives and cross matrices in bits, computed over the definitions. The products with zero are there: they decide the signs of zeros.
use mathlib.Core.Path.{◌≡◌, refl}
use lib.Ieee.{Float, of_bits, add, sub, mul, neg}
use Rattle.floats.specs.Operators.{bits}
use Rattle.floats.specs.Constants.{half, one, two}
use Rattle.floats.specs.Sign.{sign_bit}
use Rattle.spatial_floats.specs.Vector.{mul_of}
use Rattle.spatial_floats.specs.Matrix.{scaled_of, gcross_matrix_of, transpose_of}
use Rattle.spatial_floats.specs.Rotation.{product_of, inverse_of, dot_of, pure_of, xyz_of, sandwich_of, rotate_of, to_mat_of, diff_conj12_of, diff_conj12_tr_of}
use Rattle.spatial_floats.specs.Sign.{sign_of}
use Rattle.spatial_floats.specs.declared.vector.Vector.{Vector}
use Rattle.spatial_floats.specs.declared.matrix.Matrix.{Matrix}
use Rattle.spatial_floats.specs.declared.rotation_ops.Rotation.{Rotation}

-- a vector, a matrix by its columns and a quaternion from their numbers
abbrev vector : Float → Float → Float → Vector
vector x y z = record { x = x; y = y; z = z }

abbrev matrix : Vector → Vector → Vector → Matrix
matrix a b c = record { x_axis = a; y_axis = b; z_axis = c }

abbrev rotation : Float → Float → Float → Float → Rotation
rotation x y z w = record { x = x; y = y; z = z; w = w }

-- (.1, .2, .3, .4) and (.5, −.6, .7, .8), as x, y, z, w
abbrev a : Rotation
a = rotation (bits 0x3DCC_CCCD) (bits 0x3E4C_CCCD) (bits 0x3E99_999A) (bits 0x3ECC_CCCD)

abbrev b : Rotation
b = rotation (bits 0x3F00_0000) (bits 0xBF19_999A) (bits 0x3F33_3333) (bits 0x3F4C_CCCD)

abbrev o : Float
o = bits 0

abbrev -o : Float
-o = bits 0x8000_0000

abbrev -one : Float
-one = bits 0xBF80_0000

-- the quaternions that turn nothing: of either sign, and with zeros of either sign
abbrev identity : Rotation
identity = rotation o o o one

abbrev axes : Matrix
axes = matrix (vector one o o) (vector o one o) (vector o o one)

-- a·b, their dot, (1, 2, 3) turned by a, a's columns, the derivative of (inverse a)·b and its transpose
pub products : (product_of a b ≡ rotation (bits 0x3F19_999A) (bits 0x3200_0000) (bits 0x3EB8_51EB) (bits 0x3E38_51EC)) × (dot_of a b ≡ bits 0x3EEB_8520)
unfolding product_of dot_of of_bits add sub mul
products = (refl, refl)

pub turned : rotate_of a (vector one two (bits 0x4040_0000)) ≡ vector (bits 0x3E99_999A) (bits 0x3F19_999A) (bits 0x3F66_6668)
unfolding rotate_of sandwich_of product_of inverse_of pure_of xyz_of of_bits add sub mul neg
turned = refl

pub columns : to_mat_of a ≡ matrix (vector (bits 0x3D23_D70D) (bits 0x3E8F_5C29) (bits 0xBDCC_CCCE)) (vector (bits 0xBE4C_CCCD) (bits 0x3DCC_CCCE) (bits 0x3E4C_CCCE))
    (vector (bits 0x3E61_47B0) (bits 0x3D23_D70A) (bits 0x3E4C_CCCC))
unfolding to_mat_of rotate_of sandwich_of product_of inverse_of pure_of xyz_of of_bits add sub mul neg
columns = refl

pub derivative : diff_conj12_of a b ≡ matrix (vector (bits 0x3E0F_5C2A) (bits 0xBE75_C290) (bits 0x3D8F_5C2A)) (vector (bits 0x3E8F_5C29) (bits 0xBCF5_C28C) (bits 0xBE23_D70B))
    (vector (bits 0x3E19_999A) (bits 0x3DF5_C290) (bits 0x3E99_999A))
unfolding diff_conj12_of scaled_of mul_of sandwich_of product_of inverse_of pure_of xyz_of of_bits add sub mul neg
derivative = refl

pub transposed : diff_conj12_tr_of a b ≡ matrix (vector (bits 0x3E0F_5C2A) (bits 0x3E8F_5C29) (bits 0x3E19_999A)) (vector (bits 0xBE75_C290) (bits 0xBCF5_C28C) (bits 0x3DF5_C290))
    (vector (bits 0x3D8F_5C2A) (bits 0xBE23_D70B) (bits 0x3E99_999A))
unfolding diff_conj12_tr_of transpose_of diff_conj12_of scaled_of mul_of sandwich_of product_of inverse_of pure_of xyz_of of_bits add sub mul neg
transposed = refl

-- minus zeros turned by the identity are plus zeros; the matrices of (0, 0, 0, 1), (0, 0, 0, −1) and (−0, −0, −0, 1) are the identity with plus zeros
pub identities : (rotate_of identity (vector -o -o -o) ≡ vector o o o) × (to_mat_of identity ≡ axes) × (to_mat_of (rotation o o o -one) ≡ axes) × (to_mat_of (rotation -o -o -o one) ≡ axes)
unfolding to_mat_of rotate_of sandwich_of product_of inverse_of pure_of xyz_of of_bits add sub mul neg
identities = (refl, refl, refl, refl)

-- a third of a turn about (1, 1, 1), half a turn about z
pub turns : (to_mat_of (rotation half half half half) ≡ matrix (vector o one o) (vector o o one) (vector one o o)) × (to_mat_of (rotation o o one o) ≡ matrix (vector -one o o) (vector o -one o) (vector o o one))
unfolding to_mat_of rotate_of sandwich_of product_of inverse_of pure_of xyz_of of_bits add sub mul neg
turns = (refl, refl)

-- the derivative of the identity with itself is half the identity; the cross matrix of (1, 2, 3), by its columns
pub halved : (diff_conj12_of identity identity ≡ matrix (vector half o o) (vector o half o) (vector o o half))
    × (gcross_matrix_of (vector one two (bits 0x4040_0000)) ≡ matrix (vector o (bits 0x4040_0000) (bits 0xC000_0000)) (vector (bits 0xC040_0000) o one) (vector two -one o))
unfolding diff_conj12_of scaled_of mul_of sandwich_of product_of inverse_of pure_of xyz_of gcross_matrix_of of_bits add sub mul neg
halved = (refl, refl)

-- a sign copied from −0 is minus, and from NaN plus
pub signs : (sign_of -o ≡ -one) × (sign_of o ≡ one) × (sign_of (bits 0xFFC0_0000) ≡ one)
unfolding sign_of sign_bit of_bits neg
signs = (refl, refl, refl)
