-- Rule 6 as the program tries it: runs of numbers of which the same is asked, one after the other, without the free places.
use Prim.Native.Nat.{ℕ, ◌+◌, ◌*◌}
use mathlib.Core.Path.{◌≡◌, refl, ◌∙◌}
use mathlib.Core.Bool.{◌&&◌}
use mathlib.Core.List.{List, ◌++◌}
use native.Mathlib.Omega.{arith}
use lib.ListN.{replicate}
use lib.Ieee.{Float}
use Rattle.multibody.specs.Finite.{Asks, passes_from, limit_asks, motor_asks, thrice}
use Rattle.multibody.specs.Finite.Asks.{finite, no_nan, free}
use Rattle.multibody.specs.Refusals.{finite_body, finite_joint}
use Rattle.multibody.proofs.AskLaws.{passes_then, free-last, limits-tried, motors-tried}
use Rattle.spatial_model.specs.Layout.{body_width, velocity_place, numbers_width, limits_place, motors_place, softness_place}
use Rattle.spatial_model.specs.Spatial.{spatial}

pub body-tried : (b : List Float) (i : ℕ) → finite_body spatial b i ≡ passes_from (replicate velocity_place finite) b (i * body_width)
unfolding finite_body
body-tried b i = free-last (replicate velocity_place finite) 6 b (i * body_width)

-- of a joint whose numbers start at place o
module _ (s : List Float) (o : ℕ) where
  pub ends-tried : passes_from (thrice limit_asks) s (o + limits_place)
      ≡ (passes_from (replicate 2 no_nan) s (o + 14) && (passes_from (replicate 2 no_nan) s (o + 17) && passes_from (replicate 2 no_nan) s (o + 20)))
  ends-tried = limits-tried s (o + 14) (o + 17) (o + 20) (omega arith) (omega arith)

  pub drives-tried : passes_from (thrice motor_asks) s (o + motors_place) ≡ (passes_from motor_asks s (o + 23) && (passes_from motor_asks s (o + 29) && passes_from motor_asks s (o + 35)))
  drives-tried = motors-tried s (o + 23) (o + 29) (o + 35) (omega arith) (omega arith)

module _ (words : List ℕ) (s : List Float) (j : ℕ) where
  abbrev o : ℕ
  o = j * numbers_width

  abbrev from_softness : List Asks
  from_softness = replicate 2 finite ++ replicate 6 free

  pub joint-tried : finite_joint spatial words s j
      ≡ (passes_from (replicate limits_place finite) s o && (passes_from (thrice limit_asks) s (o + limits_place) && (passes_from (thrice motor_asks) s (o + motors_place)
      && passes_from (replicate 2 finite) s (o + softness_place))))
  unfolding finite_joint
  joint-tried =
      passes_then (replicate limits_place finite) (thrice limit_asks ++ (thrice motor_asks ++ from_softness)) s o (o + limits_place) refl
      ∙ rw (
        passes_then (thrice limit_asks) (thrice motor_asks ++ from_softness) s (o + limits_place) (o + motors_place) (omega arith),
        passes_then (thrice motor_asks) from_softness s (o + motors_place) (o + softness_place) (omega arith),
        free-last (replicate 2 finite) 6 s (o + softness_place),
      )
