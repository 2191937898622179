-- The load call accepts every model that a seed draws, given storage for 48 rows (`accepted`). Rule by rule: at most eight bodies and eight joints; masks below 8; a first body below the number of bodies,
-- and as second another one or the world; every number finite; centres by cosine and sine; dt = 1/64; and at most six rows a joint.
use Rattle.std.proofs.Common.{◌≡◌, ℕ, ◌+◌, ◌-◌, ◌*◌, ◌/◌, ◌%◌, ◌<◌, ◌≤◌, Bool, true, false, cond, not, ◌||◌, eqb, ltb, ◌≢◌, List, [], ◌∷◌, get_or, sym, refl, ap, ◌∙◌, mod-lt, arith, le-ltb, lt-ltb, ne_eqb}
use borrow.Author.Tests.{eqb-false}
use lib.Ieee.{Float, nan, lt, of_bits}
use Rattle.floats.specs.Scalar.{is_finite}
use Rattle.multibody.specs.Rules.{refusal, at_most}
use Rattle.multibody.specs.Model.{Model, most_bodies, most_joints}
use Rattle.multibody.specs.Counts.{body_count, joint_count, row_capacity, total_rows}
use Rattle.multibody.specs.Refusals.{present_or_world, bodies_present, bodies_apart, finite_params, finite_body, finite_joint, storage_rule}
use Rattle.multibody.specs.Calls.{rules_of, first_rules, own_rules, granted_of, run}
use Rattle.multibody.specs.Calls.Call.{load}
use Rattle.multibody.specs.Calls.Answer.{granted}
use Rattle.model.specs.Layout.{body_width, words_width, numbers_width, masks_place}
use Rattle.model.specs.Records.{word}
use Rattle.model.specs.Store.{world, body1_at, body2_at, center_at}
use Rattle.model.specs.Refusals.{masks_fit, body_asks, angle_fits, center_fits}
use Rattle.model.specs.Planar.{plane, planar}
use Rattle.multibody.proofs.Tests.{by_cases}
use Rattle.multibody.proofs.AskLaws.{finite-passes, passes-intro}
use Rattle.multibody.proofs.RefusalLaws.{RulesHold, rules-rest, first-numbered}
use Rattle.multibody.proofs.RuleLaws.{all-intro, no-rules, rule-holds, granted-append}
use Rattle.multibody.proofs.CountLaws.{rows_before-le}
use Rattle.multibody.proofs.CallLaws.{run-granted}
use Rattle.model.proofs.PlanarLaws.{planar-laws}
use Rattle.seeded.specs.Draws.{draw}
use Rattle.seeded.specs.Seeded.{bodies_of, joints_of, mask_of, first_of, second_of, further, body_number, joint_number, joint_word, body_place, word_place, number_place, seeded_model}
use Rattle.seeded.proofs.PlaceLaws.{few_bodies, few_joints}
use Rattle.seeded.proofs.NumberLaws.{number-finite}
use Rattle.seeded.proofs.Front.{length-tabulate, get_d_tabulate}

-- ---- tests

cond_same : (t : Bool) (n : ℕ) → cond t n n ≡ n
cond_same true n = refl
cond_same false n = refl

or_right : (a : Bool) → (a || true) ≡ true
or_right true = refl
or_right false = refl

mask-small : (seed j c : ℕ) → 2 ≤ c → c < 6 → at_most 7 (joint_word seed j c) ≡ true
unfolding joint_word mask_of
mask-small seed j c g l =
    rw (ne_eqb c 0 (λ e. omega (arith, e, g)), ne_eqb c 1 (λ e. omega (arith, e, g)), lt-ltb c 6 l) (ap not (le-ltb 7 (draw seed (2 + 6 * j + (c - 2)) % 8) (omega arith)))

choice-word : (seed j : ℕ) → eqb (joint_word seed j 10) 0 ≡ true
unfolding joint_word
choice-word seed j = refl

-- ---- what is drawn

module _ (seed : ℕ) where
  bodies-range : (1 ≤ bodies_of seed) × (bodies_of seed ≤ 8)
  bodies-range = few_bodies seed refl

  joints-range : joints_of seed ≤ 8
  joints-range = few_joints seed refl

  further-finite : (k : ℕ) → is_finite (further seed k) ≡ true
  unfolding further
  further-finite k = number-finite _

  body-finite : (i c : ℕ) → is_finite (body_number seed i c) ≡ true
  unfolding body_number is_finite of_bits
  body-finite i c = by_cases (eqb c 0) (λ t. rw t) (λ t. by_cases (eqb c 1) (λ s. rw (t, s)) (λ s. rw (t, s) (further-finite _)))

  joint-finite : (j c : ℕ) → is_finite (joint_number seed j c) ≡ true
  unfolding joint_number is_finite of_bits
  joint-finite j c = by_cases (eqb c 0 || eqb c 4) (λ t. rw t) (λ t. by_cases (eqb c 1 || eqb c 5) (λ s. rw (t, s)) (λ s. rw (t, s) (further-finite _)))

  -- ---- bodies of a joint

  first_below : (j : ℕ) → first_of seed j < bodies_of seed
  unfolding first_of
  first_below j = mod-lt (draw seed (2 + 6 * j + 4)) bodies-range.0

  -- the second is the world, or another body
  second-cases : (P : ℕ → Type 0) (j : ℕ) → P world → ((b : ℕ) → b < bodies_of seed → b ≢ first_of seed j → P b) → P (second_of seed j)
  unfolding second_of
  second-cases P j w other =
      let n = bodies_of seed in
      let b = draw seed (2 + 6 * j + 5) % (n + 1) in
      let l : b < n + 1 = mod-lt (draw seed (2 + 6 * j + 5)) (omega arith) in
      by_cases (eqb b n) (λ t. rw t w)
      (λ t. by_cases (eqb b (first_of seed j)) (λ s. rw (t, s) w) (λ s. rw (t, s) (other b (omega (arith, l, eqb-false b n t)) (eqb-false b (first_of seed j) s))))

  -- ---- the lists

  abbrev m : Model
  m = seeded_model seed

  body-count : body_count plane m.bodies ≡ bodies_of seed
  unfolding body_count
  body-count =
      let e = length-tabulate (bodies_of seed * body_width) 0 (body_place seed) in
      rw e (omega arith)

  joint-count : joint_count plane m.words m.numbers ≡ joints_of seed
  unfolding joint_count
  joint-count =
      let e = length-tabulate (joints_of seed * words_width) 0 (word_place seed) in
      let d = length-tabulate (joints_of seed * numbers_width) 0 (number_place seed) in
      let a : joints_of seed * words_width / words_width ≡ joints_of seed = omega arith in
      let b : joints_of seed * numbers_width / numbers_width ≡ joints_of seed = omega arith in
      rw (e, d, a, b) (cond_same (ltb (joints_of seed) (joints_of seed)) (joints_of seed))

  word_of : (j c : ℕ) → j < joints_of seed → c < words_width → word words_width m.words j c ≡ joint_word seed j c
  word_of j c h l =
      let a : (j * words_width + c) / words_width ≡ j = omega arith in
      let b : (j * words_width + c) % words_width ≡ c = omega arith in
      get_d_tabulate (joints_of seed * words_width) (j * words_width + c) (word_place seed) 0 (omega arith) ∙ rw (a, b)

  body-place : (p : ℕ) → p < bodies_of seed * body_width → is_finite (get_or m.bodies p nan) ≡ true
  body-place p h =
      ap is_finite (get_d_tabulate (bodies_of seed * body_width) p (body_place seed) nan h) ∙ body-finite _ _

  joint-place : (p : ℕ) → p < joints_of seed * numbers_width → is_finite (get_or m.numbers p nan) ≡ true
  joint-place p h =
      ap is_finite (get_d_tabulate (joints_of seed * numbers_width) p (number_place seed) nan h) ∙ joint-finite _ _

  module _ (j : ℕ) (h : j < joints_of seed) where
    first_body : body1_at m.words j ≡ first_of seed j
    unfolding body1_at joint_word
    first_body = word_of j 0 h (omega arith)

    second-body : body2_at m.words j ≡ second_of seed j
    unfolding body2_at joint_word
    second-body = word_of j 1 h (omega arith)

    masks-fit : masks_fit m.words j ≡ true
    unfolding masks_fit
    masks-fit = all-intro _ masks_place 4 (λ c g l. rw (word_of j c h (omega (arith, l))) (mask-small seed j c (omega (arith, g)) (omega (arith, l))))

    choice : eqb (word words_width m.words j 10) 0 ≡ true
    choice = rw (word_of j 10 h (omega arith)) (choice-word seed j)

    present : bodies_present plane m.bodies m.words j ≡ true
    unfolding bodies_present present_or_world
    present =
        rw (first_body, second-body, body-count, lt-ltb (first_of seed j) (bodies_of seed) (first_below j), or_right (eqb (first_of seed j) world))
        (second-cases (λ b. (eqb b world || ltb b (bodies_of seed)) ≡ true) j refl (λ b l _. rw (lt-ltb b (bodies_of seed) l) (or_right (eqb b world))))

    differ : bodies_apart plane m.words j ≡ true
    unfolding bodies_apart
    differ =
        let f = first_below j in
        let few = bodies-range.1 in
        rw (first_body, second-body)
        (second-cases (λ b. not (eqb (first_of seed j) b) ≡ true) j (rw (ne_eqb (first_of seed j) world (λ e. omega (arith, e, f, few))))
        (λ b _ n. rw (ne_eqb (first_of seed j) b (λ e. n (sym e)))))

    finite : finite_joint planar m.words m.numbers j ≡ true
    unfolding finite_joint
    finite =
        passes-intro (planar.joint_asks m.words j) m.numbers (j * numbers_width)
        (λ c l. let below : c < numbers_width = l in finite-passes _ _ (joint-place (j * numbers_width + c) (omega (arith, h, below))))

    angle : center_fits m.words m.numbers j ≡ true
    unfolding center_fits center_at angle_fits
    angle = rw choice

  finite-body : (i : ℕ) → i < bodies_of seed → finite_body planar m.bodies i ≡ true
  unfolding finite_body
  finite-body i h =
      passes-intro body_asks m.bodies (i * body_width)
      (λ c l. let below : c < body_width = l in finite-passes _ _ (body-place (i * body_width + c) (omega (arith, h, below))))

  held : RulesHold planar-laws m
  unfolding finite_params is_finite lt of_bits
  held = record {
    bodies = rw body-count (rw (le-ltb most_bodies (bodies_of seed) (omega (arith, bodies-range.1))));
    joints = rw joint-count (rw (le-ltb most_joints (joints_of seed) (omega (arith, joints-range))));
    masks = (rw joint-count (all-intro _ 0 (joints_of seed) (λ j _ l. masks-fit j (omega (arith, l)))), tt);
    present = rw joint-count (all-intro _ 0 (joints_of seed) (λ j _ l. present j (omega (arith, l))));
    apart = rw joint-count (all-intro _ 0 (joints_of seed) (λ j _ l. differ j (omega (arith, l))));
    finite-params = rw (further-finite 0, further-finite 1);
    finite-bodies = rw body-count (all-intro _ 0 (bodies_of seed) (λ i _ l. finite-body i (omega (arith, l))));
    finite-joints = rw joint-count (all-intro _ 0 (joints_of seed) (λ j _ l. finite j (omega (arith, l))));
    contents = (rw joint-count (all-intro _ 0 (joints_of seed) (λ j _ l. angle j (omega (arith, l)))), tt);
    dt = refl;
  }

  pub accepted : (rows : List Float) → 48 ≤ row_capacity plane rows → run planar load m rows ≡ granted_of planar load m rows
  unfolding rules_of storage_rule
  accepted rows room =
      let total : total_rows plane m.words m.numbers ≤ row_capacity plane rows =
      omega (arith, room, rows_before-le planar-laws m.words (joint_count plane m.words m.numbers), joint-count, joints-range) in
      let front : refusal (first_rules planar load m rows) ≡ 0 =
      rules-rest planar-laws m true held refl (storage_rule plane m rows ∷ []) ∙ rule-holds (storage_rule plane m rows) [] (rw (le-ltb (row_capacity plane rows) (total_rows plane m.words m.numbers) total)) ∙ no-rules in
      sym (run-granted load m rows (granted-append (first_rules planar load m rows) (own_rules planar load m) (first-numbered planar-laws m load rows) front ∙ no-rules))

  -- and so its answer is that it is granted
  pub accepted-answer : (rows : List Float) → 48 ≤ row_capacity plane rows → (run planar load m rows).answer ≡ granted
  unfolding granted_of
  accepted-answer rows room = ap (λ o. o.answer) (accepted rows room)
