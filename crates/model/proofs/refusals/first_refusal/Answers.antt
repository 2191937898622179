-- `first_refusal` meets its contract: it tries rules 1 and 2, then 3 to 5 together, then 6, 12 and 7, and answers the first that fails.
use Prim.Native.Nat.{ℕ, ◌≤◌, ◌<◌}
use mathlib.Core.Path.{◌≡◌, refl, sym, ap, ◌∙◌}
use mathlib.Core.Bool.{Bool, true, false, not, ◌&&◌}
use mathlib.Core.List.{List, [], ◌∷◌, ◌++◌}
use mathlib.Core.Logic.{◌≢◌}
use native.Mathlib.Omega.{arith}
use borrow.Author.Tests.{lt-ltb, le-ltb}
use lib.Ieee.{Float, lt}
use Rattle.floats.specs.Operators.{bits}
use Rattle.model.specs.Model.{model_of}
use Rattle.multibody.specs.Model.{most_bodies, most_joints, Model}
use Rattle.multibody.specs.Counts.{body_count, joint_count}
use Rattle.multibody.specs.Rules.{Rule, rule, refusal, all}
use Rattle.multibody.specs.Refusals.{finite_params, finite_body, finite_joint, all_finite, model_rules, model_rules_with}
use Rattle.model.specs.Planar.{joint_rules, plane, planar}
use Rattle.model.specs.Refusals.{center_fits}
use Rattle.multibody.proofs.AnswerLaws.{not-granted, passed-on}
use Rattle.multibody.proofs.CountLaws.{bodies-fit, joints-words, joints-numbers}
use Rattle.multibody.proofs.RuleLaws.{holds, fails, no-rules, rule-holds, rule-fails, granted-append, refused-append}
use Rattle.model.proofs.refusals.first_refusal.Goals as goal

-- the call's own numbers are tested with the settings
together : (p a b j : Bool) → ((p && a) && (b && j)) ≡ (p && (b && (j && a)))
together false a b j = refl
together true true true true = refl
together true true true false = refl
together true true false j = refl
together true false true true = refl
together true false true false = refl
together true false false j = refl

-- the rules in turn, from the counts that the code has
module _ (m : Model) (arguments : Bool) {n joints : ℕ} (b : n ≡ body_count plane m.bodies) (j : joints ≡ joint_count plane m.words m.numbers) where
  abbrev rules : List Rule
  rules = model_rules planar m arguments

  many-bodies : most_bodies < n → 1 ≡ refusal rules
  unfolding model_rules_with
  many-bodies h = sym (rule-fails _ _ (ap not (lt-ltb most_bodies _ (rw b at h))))

  many-joints : n ≤ most_bodies → most_joints < joints → 2 ≡ refusal rules
  unfolding model_rules_with
  many-joints h g = sym (rule-holds _ _ (ap not (le-ltb most_bodies _ (rw b at h))) ∙ rule-fails _ _ (ap not (lt-ltb most_joints _ (rw j at g))))

  last : List Rule
  last =
      rule 6 (all_finite planar m.params m.bodies n m.words m.numbers joints arguments) ∷ rule 12 (all 0 joints (center_fits m.words m.numbers))
      ∷ rule 7 (not (lt m.params.dt (bits 0))) ∷ []

  module _ (h : n ≤ most_bodies) (g : joints ≤ most_joints) {k : ℕ} (e : k ≡ refusal (joint_rules m.bodies m.words joints)) where
    few : refusal rules ≡ refusal (joint_rules m.bodies m.words joints ++ last)
    unfolding model_rules_with last
    few = rule-holds _ _ (ap not (le-ltb most_bodies _ (rw b at h))) ∙ rule-holds _ _ (ap not (le-ltb most_joints _ (rw j at g))) ∙ rw (b, j)

    joints-fail : k ≢ 0 → k ≡ refusal rules
    joints-fail z = sym (few ∙ refused-append (joint_rules m.bodies m.words joints) last (λ q. z (e ∙ q)) ∙ sym e)

    module _ (z : k ≡ 0) {own t : Bool} (o : own ≡ (finite_params m.params && arguments))
        (f : t ≡ (own && (all 0 n (finite_body planar m.bodies) && all 0 joints (finite_joint planar m.words m.numbers)))) where
      sixth : t ≡ all_finite planar m.params m.bodies n m.words m.numbers joints arguments
      sixth = f ∙ rw o (together (finite_params m.params) arguments (all 0 n (finite_body planar m.bodies)) (all 0 joints (finite_joint planar m.words m.numbers)))

      joints-hold : refusal rules ≡ refusal last
      joints-hold = few ∙ granted-append (joint_rules m.bodies m.words joints) last (omega arith) (sym e ∙ z)

      not_finite : not t ≡ true → 6 ≡ refusal rules
      unfolding last
      not_finite q = sym (joints-hold ∙ rule-fails _ _ (fails sixth q))

      finite : not t ≡ false → refusal rules ≡ refusal (rule 12 (all 0 joints (center_fits m.words m.numbers)) ∷ rule 7 (not (lt m.params.dt (bits 0))) ∷ [])
      unfolding last
      finite q = joints-hold ∙ rule-holds _ _ (holds sixth q)

      module _ (q : not t ≡ false) {u : Bool} (a : u ≡ all 0 joints (center_fits m.words m.numbers)) where
        large : not u ≡ true → 12 ≡ refusal rules
        large r = sym (finite q ∙ rule-fails _ _ (fails a r))

        module _ (r : not u ≡ false) {dt : Float} (d : dt ≡ m.params.dt) where
          negative : lt dt (bits 0) ≡ true → 7 ≡ refusal rules
          negative l = sym (finite q ∙ rule-holds _ _ (holds a r) ∙ rule-fails _ _ (ap not (rw d at l)))

          positive : lt dt (bits 0) ≡ false → 0 ≡ refusal rules
          positive l = sym (finite q ∙ rule-holds _ _ (holds a r) ∙ rule-holds _ _ (ap not (rw d at l)) ∙ no-rules)

pub returns-then-n-gt-MOST_BODIES : goal.returns-then-n-gt-MOST_BODIES
returns-then-n-gt-MOST_BODIES c header arguments d f =
    let a = c.args in
    many-bodies (model_of header a.bodies.now a.words.now a.numbers.now) arguments c.body_count-n.ensures c.joint_count-joints.ensures c.if-n-gt-MOST_BODIES.true

pub returns-then-joints-gt-MOST_JOINTS : goal.returns-then-joints-gt-MOST_JOINTS
returns-then-joints-gt-MOST_JOINTS c header arguments d f =
    let a = c.args in
    many-joints (model_of header a.bodies.now a.words.now a.numbers.now) arguments c.body_count-n.ensures c.joint_count-joints.ensures c.if-n-gt-MOST_BODIES.false c.if-joints-gt-MOST_JOINTS.true

pub joints_refusal-requires : goal.joints_refusal-requires
joints_refusal-requires c = rw c.joint_count-joints.ensures (joints-words plane _ _)

pub returns-in_err-joints_refusal : goal.returns-in_err-joints_refusal
returns-in_err-joints_refusal c header arguments d f =
    let a = c.args in
    rw (passed-on _ c.from_residual.ensures.1) (joints-fail (model_of header a.bodies.now a.words.now a.numbers.now) arguments c.body_count-n.ensures c.joint_count-joints.ensures c.if-n-gt-MOST_BODIES.false c.if-joints-gt-MOST_JOINTS.false c.in_err-joints_refusal.ensures (not-granted _))

pub all_finite-requires : goal.all_finite-requires
all_finite-requires c =
    record { body_width_in_bounds = rw c.body_count-n.ensures (bodies-fit plane _); words_width_in_bounds = rw c.joint_count-joints.ensures (joints-words plane _ _); numbers_width_in_bounds = rw c.joint_count-joints.ensures (joints-numbers plane _ _) }

pub returns-then-not-all_finite : goal.returns-then-not-all_finite
returns-then-not-all_finite c header arguments d f =
    let a = c.args in
    not_finite (model_of header a.bodies.now a.words.now a.numbers.now) arguments c.body_count-n.ensures c.joint_count-joints.ensures c.if-n-gt-MOST_BODIES.false c.if-joints-gt-MOST_JOINTS.false c.in_ok-joints_refusal.ensures refl f c.all_finite.ensures (ap not c.if-not-all_finite.true)

pub all_centers_fit-requires : goal.all_centers_fit-requires
all_centers_fit-requires c =
    record { words_width_in_bounds = rw c.joint_count-joints.ensures (joints-words plane _ _); numbers_width_in_bounds = rw c.joint_count-joints.ensures (joints-numbers plane _ _) }

pub returns-then-not-all_centers_fit : goal.returns-then-not-all_centers_fit
returns-then-not-all_centers_fit c header arguments d f =
    let a = c.args in
    large (model_of header a.bodies.now a.words.now a.numbers.now) arguments c.body_count-n.ensures c.joint_count-joints.ensures c.if-n-gt-MOST_BODIES.false c.if-joints-gt-MOST_JOINTS.false c.in_ok-joints_refusal.ensures refl f c.all_finite.ensures (ap not c.if-not-all_finite.false) c.all_centers_fit.ensures (ap not c.if-not-all_centers_fit.true)

pub returns-then-dt : goal.returns-then-dt
returns-then-dt c header arguments d f =
    let a = c.args in
    negative (model_of header a.bodies.now a.words.now a.numbers.now) arguments c.body_count-n.ensures c.joint_count-joints.ensures c.if-n-gt-MOST_BODIES.false c.if-joints-gt-MOST_JOINTS.false c.in_ok-joints_refusal.ensures refl f c.all_finite.ensures (ap not c.if-not-all_finite.false) c.all_centers_fit.ensures (ap not c.if-not-all_centers_fit.false) d c.if-dt.true

pub returns : goal.returns
returns c header arguments d f =
    let a = c.args in
    positive (model_of header a.bodies.now a.words.now a.numbers.now) arguments c.body_count-n.ensures c.joint_count-joints.ensures c.if-n-gt-MOST_BODIES.false c.if-joints-gt-MOST_JOINTS.false c.in_ok-joints_refusal.ensures refl f c.all_finite.ensures (ap not c.if-not-all_finite.false) c.all_centers_fit.ensures (ap not c.if-not-all_centers_fit.false) d c.if-dt.false
