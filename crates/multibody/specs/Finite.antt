-- What rule 6 asks of a record's numbers. A list says it of each place; rule 6 and what calls may change go by that list.
use Rattle.std.specs.Prelude.{ℕ, ◌+◌, Bool, true, not, ◌&&◌, List, [], ◌∷◌, ◌++◌, get_or, Float}
use Rattle.std.specs.Float.{nan}
use Rattle.std.specs.Float.Ieee.{is_nan}
use Rattle.floats.specs.Scalar.{is_finite}

-- a number is finite; it is no NaN, but may be infinite, as limit ends and maximum forces; it may be any, as velocities and stored impulses
pub data Asks : Type 0 where
  finite : Asks
  no_nan : Asks
  free : Asks

unfoldable pub passes : Asks → Float → Bool
passes finite x = is_finite x
passes no_nan x = not (is_nan x)
passes free x = true

-- the numbers from place o on, each as the list asks of its place
unfoldable pub passes_from : List Asks → List Float → ℕ → Bool
passes_from [] s o = true
passes_from (a ∷ asks) s o = passes a (get_or s o nan) && passes_from asks s (o + 1)

-- an axis's limits: two ends, and the stored impulse
abbrev pub limit_asks : List Asks
limit_asks = no_nan ∷ no_nan ∷ free ∷ []

-- an axis's motor: target velocity and position, stiffness and damping; the maximum force; the stored impulse
abbrev pub motor_asks : List Asks
motor_asks = finite ∷ finite ∷ finite ∷ finite ∷ no_nan ∷ free ∷ []

-- those of three axes
abbrev pub thrice : List Asks → List Asks
thrice asks = asks ++ (asks ++ asks)
