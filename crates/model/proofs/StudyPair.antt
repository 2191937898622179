-- Two studies that differ and meet every premise of demand 3 (`compared`): bodies 0 and 1 are the set, with a joint between them that locks both linear axes;
-- body 2 hangs on the world by a joint that locks two axes in the one study and three in the other, and stands elsewhere in each. The set's joint has another
-- target velocity of its first motor in each (`motors-differ`), and its centre is typed as cosine and sine in the one and as an angle in the other
-- (`centers-differ`): it names neither. The list builds cold, which is granted in both (`builds`), warm starts, sweeps, writes back, sets motor targets from a table, and builds again with a coefficient.
-- The studies before it are computed; what they come to later is not, since no call of the list changes a joint's words (`WordsKept`).
use Rattle.std.specs.Prelude.{Some, None}
use Prim.Native.Nat.{ℕ, zero, suc}
use mathlib.Core.Path.{◌≡◌, refl, sym, ap, ◌∙◌}
use mathlib.Core.Logic.{◌≢◌, inl, ⊎_elim}
use mathlib.Core.Bool.{Bool, true, false, true≢false}
use mathlib.Core.List.Memᴰ
use mathlib.Core.List.{List, [], ◌∷◌, ◌++◌, map}
use native.Mathlib.Omega.{arith}
use borrow.Author.Tests.{ltb-true}
use lib.Dec.{ltb, lit≤}
use lib.IntN.{pos}
use lib.ListN.{replicate}
use lib.Ieee.{Float, fin, lt, eq, is_nan, of_bits}
use Rattle.texts.specs.Ascii.{ascii}
use Rattle.floats.specs.Scalar.{is_finite}
use Rattle.floats.specs.Sign.{abs_of}
use Rattle.floats.specs.SinCos.{angle_too_large}
use Rattle.rows.specs.Named.{SameNamed}
use Rattle.rows.specs.RowIds.{has_axis, row_ids}
use Rattle.rows.specs.GenericJoint.{motor_at}
use Rattle.rows.specs.declared.integration_parameters.IntegrationParameters.{IntegrationParameters}
use Rattle.rows.specs.declared.joint_velocity_constraint.WritebackId.{WritebackId}
use Rattle.rows.specs.declared.joint_velocity_constraint.WritebackId.TheVariants.{Dof, Limit, Motor}
use Rattle.model.specs.declared.store.LimitCenter.{LimitCenter}
use Rattle.model.specs.declared.store.LimitCenter.TheVariants.{CosineSine, Angle}
use Rattle.model.specs.Store.{put_first, world, solver_pose_at, vel_at, joint_at, masks_at, body1_at, body2_at, enabled_at, center_at}
use Rattle.multibody.specs.Rules.{refusal, all}
use Rattle.multibody.specs.Model.{Model, model}
use Rattle.multibody.specs.JointRows.{joint_ids, row_count, row_masks_at}
use Rattle.multibody.specs.Counts.{body_count, joint_count, row_capacity, rows_before, store_firsts, Room}
use Rattle.multibody.specs.Finite.{passes, passes_from}
use Rattle.multibody.specs.Refusals.{present_or_world, bodies_present, bodies_apart, finite_params, finite_warm, finite_body, finite_joint, model_rules_with, storage_rule, seeds_rule, reads_rows}
use Rattle.multibody.specs.Calls.{Call, rules_of, granted_of, run}
use Rattle.multibody.specs.Calls.Call.{load, build, warm_start, sweep, write_back, further}
use Rattle.multibody.specs.Traces.{Study, AtEach}
use Rattle.multibody.specs.Studies.{machine, Loaded, Enough, Closed, OfSet, Agree, MakesRows, HasRow, Names, Compared, SameNumbers, Noninterference}
use Rattle.multibody.proofs.CallLaws.{run-granted}
use Rattle.multibody.proofs.RefusedExactly.{told}
use Rattle.multibody.proofs.Premises.{Turn, recorded, recorded-returns}
use Rattle.multibody.proofs.WordsKept.{AllKeepWords, AllLend, named-before, enough-before, no-alike}
use Rattle.model.specs.Refusals.{masks_fit, angle_fits, center_fits}
use Rattle.model.specs.Planar.{plane, planar}
use Rattle.model.specs.Studies.{planar_calls}
use Rattle.model.proofs.PlanarLaws.{planar-laws, planar-two-studies}

-- ---- the two models

abbrev pub o : Float
o = fin false 0 (pos 0)

abbrev one : Float
one = fin false 1 (pos 0)

abbrev two : Float
two = fin false 1 (pos 1)

abbrev params : IntegrationParameters
params = record { dt = one; length_unit = one; normalized_max_corrective_velocity = one }

-- a body at x
abbrev body_at : Float → List Float
body_at x = one ∷ o ∷ x ∷ o ∷ one ∷ one ∷ one ∷ o ∷ o ∷ o ∷ []

-- the numbers of a joint with identity frames and a target velocity of its first motor
abbrev joint_with : Float → List Float
joint_with v = one ∷ o ∷ o ∷ o ∷ one ∷ o ∷ o ∷ o ∷ (replicate 9 o ++ (v ∷ replicate 24 o))

-- the words of a joint between two bodies, enabled, that locks some axes, how its centre is typed, and its first row
abbrev locking : ℕ → ℕ → ℕ → ℕ → ℕ → List ℕ
locking b1 b2 axes choice first = b1 ∷ b2 ∷ axes ∷ (replicate 7 0 ++ (choice ∷ first ∷ []))

-- where body 2 stands, what its joint locks, the target velocity of joint 0's first motor, and how joint 0's centre is typed
abbrev pub example : Float → ℕ → Float → ℕ → Model
example x axes v choice =
    model params false (body_at o ++ (body_at one ++ body_at x)) (locking 0 1 3 choice 0 ++ locking 2 world axes 0 2) (joint_with v ++ joint_with o)

abbrev pub m : Model
m = example two 7 one 0

abbrev pub m' : Model
m' = example o 3 two 1

-- row storage of six rows
abbrev pub storage : List Float
storage = replicate 108 o

abbrev pub s : Study (machine planar_calls)
s = record { model = m; rows = storage }

abbrev pub s' : Study (machine planar_calls)
s' = record { model = m'; rows = storage }

-- a call that is lent the same row storage in both
abbrev lending : Call planar → Turn planar_calls
lending c = record { call = c; lent = storage; lent' = storage }

abbrev pub ts : List (Turn planar_calls)
ts = map lending (build None 0 ∷ warm_start ∷ sweep 4 ∷ write_back ∷ further (ascii "1,0,1500" ++ (0x0d ∷ 0x0a ∷ [])) ∷ build (Some one) 0 ∷ sweep 1 ∷ [])

abbrev pub set : ℕ → Bool
set i = ltb i 2

-- ---- the calls are granted

-- every rule of a load, and of a build, holds
abbrev Granted : Model → Type 0
Granted n = (refusal (rules_of planar load n storage) ≡ 0) × (refusal (rules_of planar (build None 0) n storage) ≡ 0)

both-granted : Granted m × Granted m'
unfolding rules_of refusal all model_rules_with storage_rule seeds_rule reads_rows masks_fit present_or_world bodies_present bodies_apart passes passes_from finite_params finite_warm finite_body finite_joint angle_fits center_fits center_at angle_too_large abs_of is_finite is_nan lt of_bits body_count joint_count row_capacity rows_before row_count joint_ids row_masks_at enabled_at masks_at body1_at body2_at has_axis row_ids
both-granted = ((refl, refl), (refl, refl))

granted : Granted m
granted = both-granted.0

granted' : Granted m'
granted' = both-granted.1

pub loaded : Loaded planar_calls s
unfolding granted_of store_firsts put_first joint_count rows_before row_count joint_ids row_masks_at enabled_at masks_at has_axis row_ids
loaded = record { handed_over = m; by_load = sym (run-granted load m storage granted.0) }

pub loaded' : Loaded planar_calls s'
unfolding granted_of store_firsts put_first joint_count rows_before row_count joint_ids row_masks_at enabled_at masks_at has_axis row_ids
loaded' = record { handed_over = m'; by_load = sym (run-granted load m' storage granted'.0) }

-- no call of the list changes a joint's words
kept : AllKeepWords planar-laws ts
unfolding AllKeepWords
kept = (tt, (tt, (tt, (tt, (tt, (tt, (tt, tt)))))))

rooms : Room plane m storage × Room plane m' storage
unfolding joint_count row_capacity rows_before row_count joint_ids row_masks_at enabled_at masks_at has_axis row_ids
rooms = (lit≤ tt, lit≤ tt)

lends : AllLend planar-laws ts m m'
unfolding AllLend
lends = (rooms, (rooms, (rooms, (rooms, (rooms, (rooms, (rooms, tt)))))))

enough : AtEach (Enough planar_calls) (recorded planar_calls ts s s') s s'
enough = enough-before planar-laws ts kept s s' rooms.0 rooms.1 lends

-- ---- they agree

-- the set's bodies are 0 and 1
body-cases : (P : ℕ → Type 0) → P 0 → P 1 → (i : ℕ) → set i ≡ true → P i
body-cases P a b zero e = a
body-cases P a b (suc zero) e = b
body-cases P a b (suc (suc i)) e = absurd (omega (arith, ltb-true (suc (suc i)) 2 e))

-- either model has two joints
two-joints : (x v : Float) (axes choice : ℕ) → joint_count plane (example x axes v choice).words (example x axes v choice).numbers ≡ 2
unfolding joint_count
two-joints x v axes choice = refl

three-bodies : (x v : Float) (axes choice : ℕ) → body_count plane (example x axes v choice).bodies ≡ 3
unfolding body_count
three-bodies x v axes choice = refl

-- an id of a lock
abbrev is_dof : WritebackId → Bool
is_dof (Dof k) = true
is_dof (Limit k) = false
is_dof (Motor k) = false

module _ (x v : Float) (axes choice : ℕ) where
  abbrev q : Model
  q = example x axes v choice

  closed : Closed plane set q
  unfolding body1_at body2_at
  closed zero t = refl
  closed (suc zero) t = absurd (t.body2 refl)
  closed (suc (suc j)) t = absurd (omega (arith, t.there, two-joints x v axes choice))

  -- the set's joint is joint 0
  joint-zero : OfSet plane set q 0
  unfolding body1_at body2_at
  joint-zero = record { there = omega (arith, two-joints x v axes choice); inside1 = inl refl; inside2 = inl refl }

  joint-cases : (P : ℕ → Type 0) → P 0 → (j : ℕ) → OfSet plane set q j → P j
  unfolding body1_at body2_at
  joint-cases P a zero t = a
  joint-cases P a (suc zero) t = absurd (⊎_elim (λ e. omega (arith, ltb-true 2 2 e)) (λ e. omega (arith, e)) t.inside1)
  joint-cases P a (suc (suc j)) t = absurd (omega (arith, t.there, two-joints x v axes choice))

  -- which has no row but its locks'
  ids : joint_ids plane q.words 0 ≡ Dof 0 ∷ Dof 1 ∷ []
  unfolding joint_ids row_masks_at enabled_at masks_at has_axis row_ids
  ids = refl

  locks-alone : (id : WritebackId) → is_dof id ≡ false → HasRow plane q 0 id → ⊥
  locks-alone id e h = ⊎_elim (λ r. other r) (λ h. ⊎_elim (λ r. other r) Memᴰ.not-nil (Memᴰ.cases_cons h)) (Memᴰ.cases_cons (rw ids at h))
    where
      other : {k : ℕ} → id ≡ Dof k → ⊥
      other r = true≢false (sym (ap is_dof r) ∙ e)

unnamed : (id : WritebackId) → is_dof id ≡ false → Names planar_calls (recorded planar_calls ts s s') s s' 0 id → ⊥
unnamed id e h = ⊎_elim (locks-alone two one 7 0 id e) (locks-alone o two 3 1 id e) (named-before planar-laws ts kept s s' 0 id h)

contents : SameNamed (Names planar_calls (recorded planar_calls ts s s') s s' 0) (joint_at m.words m.numbers 0) (joint_at m'.words m'.numbers 0)
unfolding joint_at
contents = record {
  frame1 = refl;
  frame2 = refl;
  masks = refl;
  softness = refl;
  enabled = refl;
  motor = λ i n. absurd (unnamed (Motor i) refl n);
  limits = λ i n. refl;
  center = λ n. absurd (unnamed (Limit 2) refl n);
  dof = λ i n. refl;
}

pub agree : Agree plane set (Names planar_calls (recorded planar_calls ts s s') s s') m m'
unfolding solver_pose_at vel_at body1_at body2_at
agree = record {
  params = refl;
  closed = closed two one 7 0;
  closed' = closed o two 3 1;
  present = λ i e. (omega (arith, ltb-true i 2 e, three-bodies two one 7 0), omega (arith, ltb-true i 2 e, three-bodies o two 3 1));
  poses = body-cases (λ i. solver_pose_at m.bodies i ≡ solver_pose_at m'.bodies i) refl refl;
  velocities = body-cases (λ i. vel_at m.bodies i ≡ vel_at m'.bodies i) refl refl;
  joints = joint-cases two one 7 0 (OfSet plane set m') (joint-zero o two 3 1);
  joints' = joint-cases o two 3 1 (OfSet plane set m) (joint-zero two one 7 0);
  bodies1 = joint-cases two one 7 0 (λ j. body1_at m.words j ≡ body1_at m'.words j) refl;
  bodies2 = joint-cases two one 7 0 (λ j. body2_at m.words j ≡ body2_at m'.words j) refl;
  contents = joint-cases two one 7 0 (λ j. SameNamed (Names planar_calls (recorded planar_calls ts s s') s s' j) (joint_at m.words m.numbers j) (joint_at m'.words m'.numbers j)) contents;
}

-- ---- what is shown

pub compared : Compared planar_calls set (recorded planar_calls ts s s') s s'
compared = record { loaded = loaded; loaded' = loaded'; agree = agree; storage = enough; alike = no-alike planar-laws ts kept s s'; traces = recorded-returns planar_calls ts s s' }

pub same_numbers : SameNumbers plane m m'
same_numbers = record { bodies = three-bodies two one 7 0 ∙ sym (three-bodies o two 3 1); joints = two-joints two one 7 0 ∙ sym (two-joints o two 3 1) }

pub shared : Noninterference planar_calls set (recorded planar_calls ts s s') s s'
shared = planar-two-studies set (recorded planar_calls ts s s') s s' same_numbers compared

-- rows are made in both, by the first call
pub builds : MakesRows planar_calls (build None 0) (run planar (build None 0) m storage) × MakesRows planar_calls (build None 0) (run planar (build None 0) m' storage)
builds = ((refl, told planar-laws (build None 0) m storage ∙ granted.1), (refl, told planar-laws (build None 0) m' storage ∙ granted'.1))

-- and the set's joint differs in a motor
pub motors-differ : (motor_at (joint_at m.words m.numbers 0).«data» 0).target_vel ≢ (motor_at (joint_at m'.words m'.numbers 0).«data» 0).target_vel
unfolding joint_at eq
motors-differ e = true≢false (ap (λ x. eq one x) e)

-- and in how its centre is typed
abbrev is_angle : LimitCenter → Bool
is_angle (CosineSine re im) = false
is_angle (Angle angle) = true

pub centers-differ : center_at m.words m.numbers 0 ≢ center_at m'.words m'.numbers 0
unfolding center_at
centers-differ e = true≢false (sym (ap is_angle e))
