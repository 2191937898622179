-- Words and numbers that are held decode as the model's do.
use mathlib.Core.Path.{◌≡◌, refl, ap, ◌∙◌, fun_ext}
use mathlib.Core.Bool.{Bool, true, false, cond}
use Prim.Native.Nat.{ℕ, ◌+◌, ◌<◌}
use native.Mathlib.Omega.{arith}
use borrow.Author.Tests.{ltb-true}
use lib.Dec.{eqb, ltb}
use lib.Ieee.{Float, nan}
use Rattle.rows.specs.declared.motor_model.MotorModel.TheVariants.{AccelerationBased, ForceBased}
use Rattle.rows.specs.declared.generic_joint.JointEnabled.TheVariants.{Enabled, DisabledByAttachedBody, Disabled}
use Rattle.model.specs.Layout.{masks_place, models_place, enabled_place, center_choice_place, dofs_place, center_place}
use Rattle.model.specs.Store.{motor_model_of, enabled_of, data_of, center_of, rotation_of, joint_of}
use Rattle.model.specs.declared.store.LimitCenter.TheVariants.{CosineSine, Angle}
use Rattle.study_reader.proofs.Places.{by_cases}
use Rattle.study_writer.proofs.Agrees.{binary, ternary}

model-same : (v : ℕ) → motor_model_of (binary v) ≡ motor_model_of v
model-same v = go (eqb v 0)
  where
    go : (t : Bool) → cond (eqb (cond t 0 1) 0) AccelerationBased ForceBased ≡ cond t AccelerationBased ForceBased
    go true = refl
    go false = refl

enabled-same : (v : ℕ) → enabled_of (ternary v) ≡ enabled_of v
enabled-same v = go (eqb v 0) (eqb v 1)
  where
    go : (s t : Bool) → cond (eqb (cond s 0 (cond t 1 2)) 0) Enabled (cond (eqb (cond s 0 (cond t 1 2)) 1) DisabledByAttachedBody Disabled)
        ≡ cond s Enabled (cond t DisabledByAttachedBody Disabled)
    go true t = refl
    go false true = refl
    go false false = refl

-- a joint's numbers, of which the last counts for nothing
abbrev first_of : (ℕ → Float) → ℕ → Float
first_of f c = cond (ltb c (center_place + 1)) (f c) nan

module _ (f' f : ℕ → Float) (g' g : ℕ → ℕ) (h : (c : ℕ) → c < center_place + 1 → f' c ≡ f c) (last : eqb (g center_choice_place) 0 ≡ true → f' (center_place + 1) ≡ f (center_place + 1))
    (w2 : g' masks_place ≡ g masks_place) (w3 : g' (masks_place + 1) ≡ g (masks_place + 1)) (w4 : g' (masks_place + 2) ≡ g (masks_place + 2)) (w5 : g' (masks_place + 3) ≡ g (masks_place + 3)) (w6 : g' models_place ≡ binary (g models_place)) (w7 : g' (models_place + 1) ≡ binary (g (models_place + 1))) (w8 : g' (models_place + 2) ≡ binary (g (models_place + 2)))
    (w9 : g' enabled_place ≡ ternary (g enabled_place)) (w10 : g' center_choice_place ≡ binary (g center_choice_place)) where
  pub center-same : center_of f' g' ≡ center_of f g
  center-same = ap (λ (n : ℕ). cond (eqb n 0) (CosineSine (f' center_place) (f' (center_place + 1))) (Angle (f' center_place))) w10 ∙ go (eqb (g center_choice_place) 0) refl
    where
      go : (t : Bool) → eqb (g center_choice_place) 0 ≡ t → cond (eqb (cond t 0 1) 0) (CosineSine (f' center_place) (f' (center_place + 1))) (Angle (f' center_place)) ≡ cond t (CosineSine (f center_place) (f (center_place + 1))) (Angle (f center_place))
      go true e = let a = h center_place (omega arith) in let b = last e in cc
      go false e = let a = h center_place (omega arith) in cc

  -- the numbers that decide all but the centre
  same_numbers : first_of f' ≡ first_of f
  same_numbers = fun_ext (λ c. by_cases (ltb c (center_place + 1)) (λ t. rw t (h c (ltb-true c (center_place + 1) t))) (λ t. rw t refl))

  data-same : data_of f' g' ≡ data_of f g
  data-same =
      ap (λ (e : ℕ → Float). data_of e g') same_numbers
      ∙ simp (w2, w3, w4, w5, ap motor_model_of w6 ∙ model-same (g models_place), ap motor_model_of w7 ∙ model-same (g (models_place + 1)), ap motor_model_of w8 ∙ model-same (g (models_place + 2)), ap enabled_of w9 ∙ enabled-same (g enabled_place))

  pub joint-same : joint_of f' g' ≡ joint_of f g
  joint-same =
      let a = data-same in
      let b = h dofs_place (omega arith) in
      let c = h (dofs_place + 1) (omega arith) in
      let d = h (dofs_place + 2) (omega arith) in
      let e = ap rotation_of center-same in
      cc
