-- Two studies in space that differ and meet every premise of demand 3 (`compared`): bodies 0 and 1 are the set, with a joint between them that locks axes 0, 3 and 5; body 2 hangs on the world by a joint that locks all six axes in
-- the one study and the angular ones in the other, and stands elsewhere in each. The set's joint has another target velocity of its first motor in each (`motors-differ`), which it does not name. The list builds cold, which is
-- granted in both (`builds`), warm starts, sweeps, writes back, removes the bias, and builds again with a coefficient.
-- The studies before it are computed; what they come to later is not, since no call of the list changes a joint's words (`WordsKept`).
use Rattle.std.specs.Prelude.{Some, None}
use Prim.Native.Nat.{ℕ, zero, suc}
use mathlib.Core.Path.{◌≡◌, refl, sym, ap, ◌∙◌}
use mathlib.Core.Logic.{◌≢◌, inl, ⊎_elim}
use mathlib.Core.Bool.{Bool, true, false, true≢false}
use mathlib.Core.List.Memᴰ
use mathlib.Core.List.{List, [], ◌∷◌, ◌++◌, map}
use native.Mathlib.Omega.{arith}
use borrow.Author.Tests.{ltb-true}
use lib.Dec.{ltb, lit≤}
use lib.IntN.{pos}
use lib.ListN.{replicate}
use lib.Ieee.{Float, fin, lt, eq, is_nan, of_bits}
use Rattle.floats.specs.Scalar.{is_finite}
use Rattle.floats.specs.Sign.{abs_of}
use Rattle.rows.specs.RowIds.{has_axis, row_ids}
use Rattle.rows.specs.declared.integration_parameters.IntegrationParameters.{IntegrationParameters}
use Rattle.rows.specs.declared.joint_velocity_constraint.WritebackId.{WritebackId}
use Rattle.rows.specs.declared.joint_velocity_constraint.WritebackId.TheVariants.{Dof, Limit, Motor}
use Rattle.spatial_rows.specs.Named.{SameNamed}
use Rattle.spatial_rows.specs.GenericJoint.{motor_at}
use Rattle.multibody.specs.Rules.{refusal, all}
use Rattle.multibody.specs.Model.{Model, model, world}
use Rattle.multibody.specs.JointRows.{joint_ids, row_count, row_masks_at}
use Rattle.multibody.specs.Counts.{body_count, joint_count, row_capacity, rows_before, store_firsts, Room}
use Rattle.multibody.specs.Finite.{passes, passes_from}
use Rattle.multibody.specs.Refusals.{present_or_world, bodies_present, bodies_apart, finite_params, finite_warm, finite_body, finite_joint, model_rules_with, storage_rule, seeds_rule, reads_rows}
use Rattle.multibody.specs.Calls.{Call, rules_of, granted_of, run}
use Rattle.multibody.specs.Calls.Call.{load, build, warm_start, sweep, remove_bias, write_back}
use Rattle.multibody.specs.Traces.{Study, AtEach}
use Rattle.multibody.specs.Studies.{machine, Loaded, Enough, Closed, OfSet, Agree, MakesRows, HasRow, Names, Compared, SameNumbers, Noninterference}
use Rattle.multibody.proofs.CallLaws.{run-granted}
use Rattle.multibody.proofs.RefusedExactly.{told}
use Rattle.multibody.proofs.Premises.{Turn, recorded, recorded-returns}
use Rattle.multibody.proofs.WordsKept.{AllKeepWords, AllLend, named-before, enough-before, no-alike}
use Rattle.spatial_model.specs.Store.{solver_pose_at, vel_at, joint_at, masks_at, body1_at, body2_at, enabled_at}
use Rattle.spatial_model.specs.Refusals.{masks_fit, linear_alone}
use Rattle.spatial_model.specs.Spatial.{space, spatial}
use Rattle.spatial_model.specs.Studies.{spatial_calls}
use Rattle.spatial_model.proofs.SpatialLaws.{spatial-laws, spatial-two-studies}

-- ---- the two models

abbrev o : Float
o = fin false 0 (pos 0)

abbrev one : Float
one = fin false 1 (pos 0)

abbrev two : Float
two = fin false 1 (pos 1)

abbrev params : IntegrationParameters
params = record { dt = one; length_unit = one; normalized_max_corrective_velocity = one }

-- the identity pose at x, and a body there of unit masses and inertia
abbrev pose_at : Float → List Float → List Float
pose_at x rest = o ∷ o ∷ o ∷ one ∷ x ∷ o ∷ o ∷ rest

abbrev body_at : Float → List Float
body_at x = pose_at x (one ∷ o ∷ o ∷ one ∷ o ∷ one ∷ one ∷ one ∷ one ∷ replicate 6 o)

-- the numbers of a joint with identity frames and a target velocity of its first motor
abbrev joint_with : Float → List Float
joint_with v = pose_at o (pose_at o (replicate 9 o ++ (v ∷ replicate 25 o)))

-- the words of a joint between two bodies, enabled, that locks some axes
abbrev locking : ℕ → ℕ → ℕ → List ℕ
locking b1 b2 axes = b1 ∷ b2 ∷ axes ∷ replicate 7 0

-- where body 2 stands, what its joint locks, and the target velocity of joint 0's first motor
abbrev example : Float → ℕ → Float → Model
example x axes v = model params false (body_at o ++ (body_at one ++ body_at x)) (locking 0 1 41 ++ locking 2 world axes) (joint_with v ++ joint_with o)

abbrev m : Model
m = example two 63 one

abbrev m' : Model
m' = example o 56 two

-- row storage of nine rows
abbrev storage : List Float
storage = replicate 261 o

abbrev s : Study (machine spatial_calls)
s = record { model = m; rows = storage }

abbrev s' : Study (machine spatial_calls)
s' = record { model = m'; rows = storage }

-- a call that is lent the same row storage in both
abbrev lending : Call spatial → Turn spatial_calls
lending c = record { call = c; lent = storage; lent' = storage }

abbrev ts : List (Turn spatial_calls)
ts = map lending (build None 0 ∷ warm_start ∷ sweep 4 ∷ write_back ∷ remove_bias ∷ build (Some one) 0 ∷ sweep 1 ∷ [])

abbrev set : ℕ → Bool
set i = ltb i 2

-- ---- the calls are granted

-- every rule of a load, and of a build, holds
abbrev Granted : Model → Type 0
Granted n = (refusal (rules_of spatial load n storage) ≡ 0) × (refusal (rules_of spatial (build None 0) n storage) ≡ 0)

both-granted : Granted m × Granted m'
unfolding rules_of refusal all model_rules_with storage_rule seeds_rule reads_rows masks_fit linear_alone present_or_world bodies_present bodies_apart passes passes_from finite_params finite_warm finite_body finite_joint abs_of is_finite is_nan lt of_bits body_count joint_count row_capacity rows_before row_count joint_ids row_masks_at enabled_at masks_at body1_at body2_at has_axis row_ids
both-granted = ((refl, refl), (refl, refl))

granted : Granted m
granted = both-granted.0

granted' : Granted m'
granted' = both-granted.1

loaded : Loaded spatial_calls s
unfolding granted_of store_firsts joint_count
loaded = record { handed_over = m; by_load = sym (run-granted load m storage granted.0) }

loaded' : Loaded spatial_calls s'
unfolding granted_of store_firsts joint_count
loaded' = record { handed_over = m'; by_load = sym (run-granted load m' storage granted'.0) }

-- no call of the list changes a joint's words
kept : AllKeepWords spatial-laws ts
unfolding AllKeepWords
kept = (tt, (tt, (tt, (tt, (tt, (tt, (tt, tt)))))))

rooms : Room space m storage × Room space m' storage
unfolding joint_count row_capacity rows_before row_count joint_ids row_masks_at enabled_at masks_at has_axis row_ids
rooms = (lit≤ tt, lit≤ tt)

lends : AllLend spatial-laws ts m m'
unfolding AllLend
lends = (rooms, (rooms, (rooms, (rooms, (rooms, (rooms, (rooms, tt)))))))

enough : AtEach (Enough spatial_calls) (recorded spatial_calls ts s s') s s'
enough = enough-before spatial-laws ts kept s s' rooms.0 rooms.1 lends

-- ---- they agree

-- the set's bodies are 0 and 1
body-cases : (P : ℕ → Type 0) → P 0 → P 1 → (i : ℕ) → set i ≡ true → P i
body-cases P a b zero e = a
body-cases P a b (suc zero) e = b
body-cases P a b (suc (suc i)) e = absurd (omega (arith, ltb-true (suc (suc i)) 2 e))

-- either model has two joints
two-joints : (x v : Float) (axes : ℕ) → joint_count space (example x axes v).words (example x axes v).numbers ≡ 2
unfolding joint_count
two-joints x v axes = refl

three-bodies : (x v : Float) (axes : ℕ) → body_count space (example x axes v).bodies ≡ 3
unfolding body_count
three-bodies x v axes = refl

-- an id of a lock
abbrev is_dof : WritebackId → Bool
is_dof (Dof k) = true
is_dof (Limit k) = false
is_dof (Motor k) = false

module _ (x v : Float) (axes : ℕ) where
  abbrev q : Model
  q = example x axes v

  closed : Closed space set q
  unfolding body1_at body2_at
  closed zero t = refl
  closed (suc zero) t = absurd (t.body2 refl)
  closed (suc (suc j)) t = absurd (omega (arith, t.there, two-joints x v axes))

  -- the set's joint is joint 0
  joint-zero : OfSet space set q 0
  unfolding body1_at body2_at
  joint-zero = record { there = omega (arith, two-joints x v axes); inside1 = inl refl; inside2 = inl refl }

  joint-cases : (P : ℕ → Type 0) → P 0 → (j : ℕ) → OfSet space set q j → P j
  unfolding body1_at body2_at
  joint-cases P a zero t = a
  joint-cases P a (suc zero) t = absurd (⊎_elim (λ e. omega (arith, ltb-true 2 2 e)) (λ e. omega (arith, e)) t.inside1)
  joint-cases P a (suc (suc j)) t = absurd (omega (arith, t.there, two-joints x v axes))

  -- which has no row but its locks'
  ids : joint_ids space q.words 0 ≡ Dof 3 ∷ Dof 5 ∷ Dof 0 ∷ []
  unfolding joint_ids row_masks_at enabled_at masks_at has_axis row_ids
  ids = refl

  locks-alone : (id : WritebackId) → is_dof id ≡ false → HasRow space q 0 id → ⊥
  locks-alone id e h =
      ⊎_elim (λ r. other r)
      (λ h. ⊎_elim (λ r. other r) (λ h. ⊎_elim (λ r. other r) Memᴰ.not-nil (Memᴰ.cases_cons h)) (Memᴰ.cases_cons h)) (Memᴰ.cases_cons (rw ids at h))
    where
      other : {k : ℕ} → id ≡ Dof k → ⊥
      other r = true≢false (sym (ap is_dof r) ∙ e)

unnamed : (id : WritebackId) → is_dof id ≡ false → Names spatial_calls (recorded spatial_calls ts s s') s s' 0 id → ⊥
unnamed id e h = ⊎_elim (locks-alone two one 63 id e) (locks-alone o two 56 id e) (named-before spatial-laws ts kept s s' 0 id h)

contents : SameNamed (Names spatial_calls (recorded spatial_calls ts s s') s s' 0) (joint_at m.words m.numbers 0) (joint_at m'.words m'.numbers 0)
unfolding joint_at
contents = record {
  frame1 = refl;
  frame2 = refl;
  masks = refl;
  softness = refl;
  enabled = refl;
  motor = λ i n. absurd (unnamed (Motor i) refl n);
  limits = λ i n. refl;
  dof = λ i n. refl;
}

agree : Agree space set (Names spatial_calls (recorded spatial_calls ts s s') s s') m m'
unfolding solver_pose_at vel_at body1_at body2_at
agree = record {
  params = refl;
  closed = closed two one 63;
  closed' = closed o two 56;
  present = λ i e. (omega (arith, ltb-true i 2 e, three-bodies two one 63), omega (arith, ltb-true i 2 e, three-bodies o two 56));
  poses = body-cases (λ i. solver_pose_at m.bodies i ≡ solver_pose_at m'.bodies i) refl refl;
  velocities = body-cases (λ i. vel_at m.bodies i ≡ vel_at m'.bodies i) refl refl;
  joints = joint-cases two one 63 (OfSet space set m') (joint-zero o two 56);
  joints' = joint-cases o two 56 (OfSet space set m) (joint-zero two one 63);
  bodies1 = joint-cases two one 63 (λ j. body1_at m.words j ≡ body1_at m'.words j) refl;
  bodies2 = joint-cases two one 63 (λ j. body2_at m.words j ≡ body2_at m'.words j) refl;
  contents = joint-cases two one 63 (λ j. SameNamed (Names spatial_calls (recorded spatial_calls ts s s') s s' j) (joint_at m.words m.numbers j) (joint_at m'.words m'.numbers j)) contents;
}

-- ---- what is shown

pub compared : Compared spatial_calls set (recorded spatial_calls ts s s') s s'
compared = record { loaded = loaded; loaded' = loaded'; agree = agree; storage = enough; alike = no-alike spatial-laws ts kept s s'; traces = recorded-returns spatial_calls ts s s' }

same_numbers : SameNumbers space m m'
same_numbers = record { bodies = three-bodies two one 63 ∙ sym (three-bodies o two 56); joints = two-joints two one 63 ∙ sym (two-joints o two 56) }

pub shared : Noninterference spatial_calls set (recorded spatial_calls ts s s') s s'
shared = spatial-two-studies set (recorded spatial_calls ts s s') s s' same_numbers compared

-- rows are made in both, by the first call
pub builds : MakesRows spatial_calls (build None 0) (run spatial (build None 0) m storage) × MakesRows spatial_calls (build None 0) (run spatial (build None 0) m' storage)
builds = ((refl, told spatial-laws (build None 0) m storage ∙ granted.1), (refl, told spatial-laws (build None 0) m' storage ∙ granted'.1))

-- and the set's joint differs in a motor
pub motors-differ : (motor_at (joint_at m.words m.numbers 0).«data» 0).target_vel ≢ (motor_at (joint_at m'.words m'.numbers 0).«data» 0).target_vel
unfolding joint_at eq
motors-differ e = true≢false (ap (λ x. eq one x) e)
