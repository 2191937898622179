-- Rule 6 as the program tries it: runs of numbers of which the same is asked, one after the other, without the free places.
use Prim.Native.Nat.{ℕ, ◌+◌, ◌*◌}
use mathlib.Core.Path.{◌≡◌, refl, ◌∙◌}
use mathlib.Core.Bool.{Bool, true, false, ◌&&◌}
use mathlib.Core.List.{List, ◌++◌}
use native.Mathlib.Omega.{arith}
use lib.Dec.{eqb}
use lib.ListN.{replicate}
use lib.Ieee.{Float}
use Rattle.multibody.specs.Finite.{Asks, passes, passes_from, limit_asks, motor_asks, thrice}
use Rattle.multibody.specs.Finite.Asks.{finite, no_nan, free}
use Rattle.multibody.specs.Refusals.{finite_body, finite_joint}
use Rattle.multibody.proofs.Tests.{by_cases}
use Rattle.multibody.proofs.AskLaws.{passes_then, free-last, limits-tried, motors-tried}
use Rattle.model.specs.Layout.{body_width, velocity_place, words_width, center_choice_place, numbers_width, limits_place, motors_place, softness_place, dofs_place}
use Rattle.model.specs.Records.{word}
use Rattle.model.specs.Store.{center_at}
use Rattle.model.specs.Refusals.{center_asks, finite_center}
use Rattle.model.specs.Planar.{planar}

pub body-tried : (b : List Float) (i : ℕ) → finite_body planar b i ≡ passes_from (replicate velocity_place finite) b (i * body_width)
unfolding finite_body
body-tried b i = free-last (replicate velocity_place finite) 3 b (i * body_width)

-- of a joint whose numbers start at place o
module _ (s : List Float) (o : ℕ) where
  pub ends-tried : passes_from (thrice limit_asks) s (o + limits_place)
      ≡ (passes_from (replicate 2 no_nan) s (o + 8) && (passes_from (replicate 2 no_nan) s (o + 11) && passes_from (replicate 2 no_nan) s (o + 14)))
  ends-tried = limits-tried s (o + 8) (o + 11) (o + 14) (omega arith) (omega arith)

  pub drives-tried : passes_from (thrice motor_asks) s (o + motors_place) ≡ (passes_from motor_asks s (o + 17) && (passes_from motor_asks s (o + 23) && passes_from motor_asks s (o + 29)))
  drives-tried = motors-tried s (o + 17) (o + 23) (o + 29) (omega arith) (omega arith)

and-true : (b : Bool) → (b && true) ≡ b
and-true true = refl
and-true false = refl

module _ (words : List ℕ) (s : List Float) (j : ℕ) where
  abbrev o : ℕ
  o = j * numbers_width

  abbrev choice : ℕ
  choice = word words_width words j center_choice_place

  center-tried : passes_from (replicate 3 free ++ center_asks choice) s (o + dofs_place) ≡ finite_center (center_at words s j)
  unfolding passes_from passes finite_center center_at
  center-tried =
      let first : o + 37 + 1 + 1 + 1 ≡ o + 40 = omega arith in
      let second : o + 40 + 1 ≡ o + 41 = omega arith in
      by_cases (eqb choice 0) (λ t. rw (t, first, second, and-true)) (λ t. rw (t, first, and-true))

  abbrev from_softness : List Asks
  from_softness = replicate 2 finite ++ (replicate 3 free ++ center_asks choice)

  pub joint-tried : finite_joint planar words s j
      ≡ (passes_from (replicate limits_place finite) s o && (passes_from (thrice limit_asks) s (o + limits_place) && (passes_from (thrice motor_asks) s (o + motors_place)
      && (passes_from (replicate 2 finite) s (o + softness_place) && finite_center (center_at words s j)))))
  unfolding finite_joint
  joint-tried =
      passes_then (replicate limits_place finite) (thrice limit_asks ++ (thrice motor_asks ++ from_softness)) s o (o + limits_place) refl
      ∙ rw (
        passes_then (thrice limit_asks) (thrice motor_asks ++ from_softness) s (o + limits_place) (o + motors_place) (omega arith),
        passes_then (thrice motor_asks) from_softness s (o + motors_place) (o + softness_place) (omega arith),
        passes_then (replicate 2 finite) (replicate 3 free ++ center_asks choice) s (o + softness_place) (o + dofs_place) (omega arith),
        center-tried,
      )
