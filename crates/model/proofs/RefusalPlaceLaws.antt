-- Where a model breaks a rule (`refusal_place`). The tests of rules 3, 4, 5, 6, 7 and 12 are these rules: all tests of one hold exactly where it does (`rule-tested`). Where a rule fails, its place is that of a test that fails, and every
-- test before it holds (`first-broken`); where it holds of the model, there is none in it (`held-nowhere`).
use Prim.Native.Nat.{ℕ, zero, suc, ◌+◌, ◌*◌}
use mathlib.Core.Path.{◌≡◌, refl, sym, ap, ◌∙◌, subst}
use mathlib.Core.Bool.{Bool, true, false, ◌&&◌, true≢false, false≢true}
use mathlib.Core.List.{List, [], ◌∷◌, ◌++◌}
use native.Mathlib.Omega.{arith}
use lib.ListN.{length, get_or}
use lib.Ieee.{Float, nan}
use Rattle.std.specs.Prelude.{Option, Some, None}
use Rattle.multibody.specs.Rules.{all, at_most}
use Rattle.multibody.specs.Model.{Model}
use Rattle.multibody.specs.Finite.{Asks, passes, passes_from}
use Rattle.multibody.specs.Finite.Asks.{free}
use Rattle.multibody.specs.Counts.{body_count, joint_count}
use Rattle.multibody.specs.Refusals.{bodies_present, bodies_apart, finite_params, finite_body, finite_joint, model_rules, model_rules_with}
use Rattle.multibody.proofs.Tests.{by_cases}
use Rattle.multibody.proofs.RuleLaws.{rule_of, all-below, all-intro}
use Rattle.multibody.proofs.AskLaws.{passes_at, passes-intro}
use Rattle.model.specs.Layout.{body_width, words_width, body1_place, masks_place, numbers_width, center_place}
use Rattle.model.specs.Records.{num, word}
use Rattle.model.specs.Refusals.{all_axes, body_asks, masks_fit, center_fits}
use Rattle.model.specs.Planar.{plane, planar}
use Rattle.model.specs.declared.refusal_place.Place.{Place}
use Rattle.model.specs.declared.refusal_place.Place.TheVariants.{BodyNumber, JointWord, JointNumber}
use Rattle.model.specs.RefusalPlace.{Test, at, broken, each, mask_tests, present_tests, number_tests, body_tests, finite_tests, step_tests, setting_tests, joint_tests, all_body_tests, place_tests, refusal_place}

-- ---- any list of tests

abbrev AllHold : List Test → Type 0
AllHold [] = Unit
AllHold (t ∷ ts) = (t.holds ≡ true) × AllHold ts

-- there is a place, its test fails, and every test before it holds
pub record FirstBroken (told : Option Place) (ts : List Test) : Type 0 where
  pub place : Place
  pub told-is : told ≡ Some place
  pub before : List Test
  pub after : List Test
  pub split : ts ≡ before ++ (at place false ++ after)
  pub hold : AllHold before

-- all of them together
pub hold_all : List Test → Bool
hold_all [] = true
hold_all (t ∷ ts) = t.holds && hold_all ts

pub broken-later : (t : Test) (ts : List Test) → t.holds ≡ true → broken (t ∷ ts) ≡ broken ts
unfolding broken
broken-later t ts h = rw h

pub broken-here : (t : Test) (ts : List Test) → t.holds ≡ false → broken (t ∷ ts) ≡ Some t.place
unfolding broken
broken-here t ts h = rw h

fails-first : (ts : List Test) → hold_all ts ≡ false → FirstBroken (broken ts) ts
unfolding hold_all
fails-first [] e = absurd (true≢false e)
fails-first (t ∷ ts) e =
    by_cases t.holds
    (λ h.
    let f = fails-first ts (rw h at e) in
    subst (λ p. FirstBroken p (t ∷ ts)) (sym (broken-later t ts h))
    (record { place = f.place; told-is = f.told-is; before = t ∷ f.before; after = f.after; split = ap (λ l. t ∷ l) f.split; hold = (h, f.hold) }))
    (λ h.
    let s : at t.place t.holds ≡ at t.place false = ap (at t.place) h in
    subst (λ p. FirstBroken p (t ∷ ts)) (sym (broken-here t ts h)) (record { place = t.place; told-is = refl; before = []; after = ts; split = ap (λ l. l ++ ts) s; hold = tt }))

holds-nowhere : (ts : List Test) → hold_all ts ≡ true → None ≡ broken ts
unfolding hold_all broken
holds-nowhere [] e = refl
holds-nowhere (t ∷ ts) e = by_cases t.holds (λ h. rw h (holds-nowhere ts (rw h at e))) (λ h. absurd (false≢true (rw h at e)))

-- ---- the tests of one rule

and_parts : (a b c : Bool) → (a && (b && c)) ≡ (a && b && c)
and_parts true b c = refl
and_parts false b c = refl

and-true : (b : Bool) → (b && true) ≡ b
and-true true = refl
and-true false = refl

alike : (a b : Bool) → (a ≡ true → b ≡ true) → (b ≡ true → a ≡ true) → a ≡ b
alike true b f g = sym (f refl)
alike false true f g = g refl
alike false false f g = refl

hold-append : (ts us : List Test) → hold_all (ts ++ us) ≡ (hold_all ts && hold_all us)
unfolding hold_all
hold-append [] us = refl
hold-append (t ∷ ts) us = rw (hold-append ts us) (and_parts t.holds (hold_all ts) (hold_all us))

hold-each : (f : ℕ → List Test) (p : ℕ → Bool) → ((j : ℕ) → hold_all (f j) ≡ p j) → (i n : ℕ) → hold_all (each i n f) ≡ all i n p
unfolding hold_all each all
hold-each f p h i zero = refl
hold-each f p h i (suc n) = rw (hold-append (f i) (each (i + 1) n f), h i, hold-each f p h (i + 1) n)

hold_at : (p : Place) (t : Bool) → hold_all (at p t) ≡ t
unfolding hold_all
hold_at p t = and-true t

at_each : (pl : ℕ → Place) (p : ℕ → Bool) (i n : ℕ) → hold_all (each i n (λ c. at (pl c) (p c))) ≡ all i n p
at_each pl p i n = hold-each (λ c. at (pl c) (p c)) p (λ c. hold_at (pl c) (p c)) i n

masks-tested : (words : List ℕ) (j : ℕ) → hold_all (mask_tests words j) ≡ masks_fit words j
unfolding masks_fit
masks-tested words j = at_each (JointWord j) (λ c. at_most all_axes (word words_width words j c)) masks_place 4

present-tested : (bodies : List Float) (words : List ℕ) (j : ℕ) → hold_all (present_tests bodies words j) ≡ bodies_present plane bodies words j
unfolding hold_all bodies_present
present-tested bodies words j = rw and-true

-- rule 6's list tried place by place
by_place : (asks : List Asks) (s : List Float) (o : ℕ) → all 0 (length asks) (λ c. passes (get_or asks c free) (get_or s (o + c) nan)) ≡ passes_from asks s o
by_place asks s o =
    alike _ _ (λ e. passes-intro asks s o (all-below _ (length asks) e)) (λ e. all-intro _ 0 (length asks) (λ c _ l. passes_at asks s o e c (omega (arith, l))))

body-tested : (bodies : List Float) (i : ℕ) → hold_all (body_tests bodies i) ≡ finite_body planar bodies i
unfolding finite_body
body-tested bodies i = at_each (BodyNumber i) (λ c. passes (get_or body_asks c free) (num body_width bodies i c)) 0 body_width ∙ by_place body_asks bodies (i * body_width)

number-tested : (words : List ℕ) (numbers : List Float) (j : ℕ) → hold_all (number_tests words numbers j) ≡ finite_joint planar words numbers j
unfolding finite_joint
number-tested words numbers j = at_each (JointNumber j) (λ c. passes (get_or (planar.joint_asks words j) c free) (num numbers_width numbers j c)) 0 numbers_width ∙ by_place (planar.joint_asks words j) numbers (j * numbers_width)

no-tests : (i n : ℕ) → hold_all (each i n (λ j. [])) ≡ true
unfolding hold_all each
no-tests i zero = refl
no-tests i (suc n) = no-tests (i + 1) n

settings-tested : (m : Model) → hold_all (finite_tests m.params) ≡ finite_params m.params
unfolding hold_all finite_params
settings-tested m = rw and-true

-- the rules that have places
pub data Placed : ℕ → Type 0 where
  masks : Placed 3
  present : Placed 4
  apart : Placed 5
  numbers : Placed 6
  step : Placed 7
  angles : Placed 12

pub rule-tested : (m : Model) {k : ℕ} → Placed k → hold_all (place_tests m k) ≡ rule_of k (model_rules planar m true)
unfolding setting_tests all_body_tests joint_tests model_rules_with
rule-tested m masks = hold-each (mask_tests m.words) (masks_fit m.words) (masks-tested m.words) 0 _
rule-tested m present = hold-each (present_tests m.bodies m.words) (bodies_present plane m.bodies m.words) (present-tested m.bodies m.words) 0 _
rule-tested m apart = at_each (λ j. JointWord j body1_place) (bodies_apart plane m.words) 0 _
rule-tested m numbers =
    hold-append (finite_tests m.params) (each 0 (body_count plane m.bodies) (body_tests m.bodies) ++ each 0 (joint_count plane m.words m.numbers) (number_tests m.words m.numbers))
    ∙ rw (
      hold-append (each 0 (body_count plane m.bodies) (body_tests m.bodies)) (each 0 (joint_count plane m.words m.numbers) (number_tests m.words m.numbers)),
      settings-tested m,
      hold-each (body_tests m.bodies) (finite_body planar m.bodies) (body-tested m.bodies) 0 (body_count plane m.bodies),
      hold-each (number_tests m.words m.numbers) (finite_joint planar m.words m.numbers) (number-tested m.words m.numbers) 0
          (joint_count plane m.words m.numbers),
      and-true,
    )
rule-tested m step =
    hold-append (step_tests m.params) (each 0 (joint_count plane m.words m.numbers) (λ j. []))
    ∙ rw (hold_at, no-tests 0 (joint_count plane m.words m.numbers), and-true)
rule-tested m angles = at_each (λ j. JointNumber j center_place) (center_fits m.words m.numbers) 0 _

pub first-broken : (m : Model) {k : ℕ} → Placed k → rule_of k (model_rules planar m true) ≡ false → FirstBroken (refusal_place m k) (place_tests m k)
first-broken m {k} p e = fails-first (place_tests m k) (rule-tested m p ∙ e)

pub held-nowhere : (m : Model) {k : ℕ} → Placed k → rule_of k (model_rules planar m true) ≡ true → None ≡ refusal_place m k
held-nowhere m {k} p e = holds-nowhere (place_tests m k) (rule-tested m p ∙ e)
