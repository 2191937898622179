-- What a build gives a joint's rows of its two bodies, as their inverse masses, and what no step, bias removal or new pose changes (`Carries`), the rows of every built study have: a build makes them
-- so, and every call keeps it (`run-kept`); of any calls that keep it (`CallsKeep`), it holds after every list (`study-carried`). Then every step of a sweep finds it in its row (`sweep-carried`). Assumes nothing.
use Rattle.std.specs.Prelude.{Option}
use mathlib.Core.Path.{◌≡◌, refl, sym, ap, ◌∙◌, subst}
use mathlib.Core.Logic.{◌≢◌, inl, inr}
use mathlib.Core.Bool.{Bool, true, false, cond, false≢true}
use mathlib.Core.List.{List, [], ◌∷◌, ◌++◌}
use Prim.Native.Nat.{ℕ, zero, suc, ◌+◌, ◌*◌, ◌≤◌, ◌<◌}
use native.Mathlib.Nat.{eq-or-lt_of_le, suc-mul, not-suc-le-zero, add-zero}
use native.Mathlib.Omega.{arith}
use lib.Dec.{T, eqb, eqb→eq, eqb_refl}
use lib.ListN.{length, get_or}
use lib.Ieee.{Float}
use Rattle.rows.specs.GenericJoint.{is_enabled}
use Rattle.rows.specs.declared.integration_parameters.IntegrationParameters.{IntegrationParameters}
use Rattle.multibody.specs.Rules.{refusal}
use Rattle.multibody.specs.Model.{Model, model}
use Rattle.multibody.specs.System.{System}
use Rattle.multibody.specs.JointRows.{State, state, row_count, built_rows, build_joint, sweep_row, remove_bias_joint}
use Rattle.multibody.specs.Counts.{joint_count, rows_before, total_rows, Sound, Room}
use Rattle.multibody.specs.Refusals.{finite_warm, model_rules, storage_rule}
use Rattle.multibody.specs.Calls.{Call, first_rules, own_rules, rules_of, granted_of, run, each_joint, build_one, remove_bias_one}
use Rattle.multibody.specs.Calls.Call.{load, place, build, warm_start, sweep, remove_bias, write_back, read_rows, read_velocity, set_masks, further}
use Rattle.multibody.specs.Traces.{Study, Given, handed, after_calls}
use Rattle.multibody.specs.Studies.{Calls, model_calls, machine, Loaded}
use Rattle.multibody.specs.SweepSteps.{RowStep, joint_steps, joints_steps, round_steps, sweep_steps, after_step, EachStep}
use Rattle.multibody.proofs.RuleLaws.{granted-append}
use Rattle.multibody.proofs.Laws.{Laws}
use Rattle.multibody.proofs.CountLaws.{rows_fit, same-joints}
use Rattle.multibody.proofs.StoredRows.{length-put_rows, put_rows-other}
use Rattle.multibody.proofs.JointLocality.{before-later, not-among}
use Rattle.multibody.proofs.ClosedSet.{layout_of}
use Rattle.multibody.proofs.RowWorks.{last_of, pose1, pose2, made_of, length-made, row_made}
use Rattle.multibody.proofs.RefusalLaws.{model-numbered, sound-of, room_of}
use Rattle.multibody.proofs.Keeps.{SamePoses, warm-keeps, sweep-keeps, back-keeps, granted-front, run-cases}
use Rattle.multibody.proofs.CallTurns.{loaded-start}
use Rattle.multibody.proofs.SweepSteps.{after_steps, sweep-is, EveryStep, every_append, every_map, every-repeated, Placed, placed-sweep}

pub by_eqb : {P : Type 0} (a b : ℕ) → (a ≡ b → P) → (a ≢ b → P) → P
by_eqb {P} a b f g = go (eqb a b) (eqb→eq a b) (λ (e : a ≡ b). subst (λ (x : ℕ). T (eqb a x)) e (eqb_refl a))
  where
    go : (x : Bool) → (T x → a ≡ b) → (a ≡ b → T x) → P
    go true h k = f (h tt)
    go false h k = g k

at-cond : {A : Type 0} (P : A → Type 0) (d : A) (t : Bool) (rs : List A) → ((i : ℕ) → i < length rs → P (get_or rs i d)) → (i : ℕ) → i < length (cond t rs []) → P (get_or (cond t rs []) i d)
at-cond P d true rs f i h = f i h
at-cond P d false rs f i h = absurd (not-suc-le-zero h)

-- where a call that is handed row storage is granted, the model is sound and the storage has room
pub granted-room : {sys : System} (laws : Laws sys) (c : Call sys) (m : Model) (rows : List Float) (finite : Bool) → first_rules sys c m rows ≡ model_rules sys m finite ++ (storage_rule sys.store m rows ∷ [])
    → refusal (rules_of sys c m rows) ≡ 0 → Sound sys.store m × Room sys.store m rows
unfolding rules_of
granted-room {sys} laws c m rows finite e z =
    let f : refusal (model_rules sys m finite ++ (storage_rule sys.store m rows ∷ [])) ≡ 0 = rw (← e) (granted-front (first_rules sys c m rows) (own_rules sys c m) z) in
    let g : refusal (model_rules sys m finite) ≡ 0 = granted-front (model_rules sys m finite) (storage_rule sys.store m rows ∷ []) f in
    (sound-of laws m finite g, room_of laws m rows (sym (granted-append (model_rules sys m finite) (storage_rule sys.store m rows ∷ []) (model-numbered laws m true finite) g) ∙ f))

module _ {sys : System} (laws : Laws sys) where
  open sys use {store}
  open store use {Pose, SolverPose, SolverVel, JointConstraint, ImpulseJoint, row_width, row_at, put_row, put_pose, solver_pose_at, joint_at, enabled_at, body1_at, body2_at, builder_update_of, step_of, remove_bias_of}

  -- what is read of a body, and what a row has of its two
  pub record Carries : Type 1 where
    pub Mass : Type 0
    pub mass_of : SolverPose → Mass
    pub RowHas : Mass → Mass → JointConstraint → Type 0
    pub blank : JointConstraint
    pub built : (params : IntegrationParameters) (substep : ℕ) (warm : Option Float) (b1 b2 : SolverPose) (a : ImpulseJoint) (last : List Float) (i : ℕ)
        → i < length (builder_update_of params substep warm b1 b2 a last) → RowHas (mass_of b1) (mass_of b2) (get_or (builder_update_of params substep warm b1 b2 a last) i blank)
    pub stepped : (a b : Mass) (r : JointConstraint) (v1 v2 : SolverVel) → RowHas a b r → RowHas a b (step_of r v1 v2).row
    pub freed : (a b : Mass) (r : JointConstraint) → RowHas a b r → RowHas a b (remove_bias_of r)
    pub placed : (b : List Float) (k : ℕ) (p : Pose) (i : ℕ) → mass_of (solver_pose_at (put_pose b k p) i) ≡ mass_of (solver_pose_at b i)

  module _ (carries : Carries) where
    open carries use {Mass, mass_of, RowHas, blank}

    module _ (m : Model) where
      -- row i of joint q has what is its bodies'
      abbrev pub Own : List Float → ℕ → ℕ → Type 0
      Own s q i = RowHas (mass_of (pose1 laws m q)) (mass_of (pose2 laws m q)) (row_at s (rows_before store m.words q + i))

      module _ (warm : Option Float) (substep : ℕ) (rows : List Float) (room : Room store m rows) where
        built-length : (j : ℕ) (s : List Float) → length (build_one store m warm substep j s) ≡ length s
        unfolding build_one build_joint
        built-length j s = length-put_rows laws (made_of laws m warm substep j s) s (rows_before store m.words j)

        made-own : (j : ℕ) (s : List Float) (i : ℕ) → i < length (made_of laws m warm substep j s) → RowHas (mass_of (pose1 laws m j)) (mass_of (pose2 laws m j)) (get_or (made_of laws m warm substep j s) i blank)
        unfolding built_rows
        made-own j s i h =
            at-cond (RowHas (mass_of (pose1 laws m j)) (mass_of (pose2 laws m j))) blank (is_enabled (enabled_at m.words j)) _
            (carries.built m.params substep warm (pose1 laws m j) (pose2 laws m j) (joint_at m.words m.numbers j) (last_of laws m j s)) i h

        built-own : (j i : ℕ) (s : List Float) → j < joint_count store m.words m.numbers → i < row_count store m.words j → length s ≡ length rows → Own (build_one store m warm substep j s) j i
        built-own j i s h l o =
            subst (RowHas _ _) (sym (row_made laws m warm substep rows room blank j i s h l o)) (made-own j s i (omega (arith, length-made laws m warm substep j s)))

        built-other : (j q i : ℕ) (s : List Float) → q ≢ j → i < row_count store m.words q → Own s q i → Own (build_one store m warm substep j s) q i
        unfolding build_one build_joint
        built-other j q i s ne c o =
            subst (RowHas _ _)
            (sym (put_rows-other laws (made_of laws m warm substep j s) s (rows_before store m.words j) (rows_before store m.words q + i)
            (λ p a b. not-among (layout_of store m) j q i p c a (omega (arith, length-made laws m warm substep j s)) ne))) o

        -- joints before j are made, and n more from j on
        each-own : (n j : ℕ) (s : List Float) → length s ≡ length rows → j + n ≤ joint_count store m.words m.numbers
            → ((q i : ℕ) → q < j → i < row_count store m.words q → Own s q i) → (q i : ℕ) → q < j + n → i < row_count store m.words q → Own (each_joint (build_one store m warm substep) j n s) q i
        unfolding each_joint
        each-own zero j s o l before q i h c = before q i (omega arith) c
        each-own (suc n) j s o l before q i h c =
            each-own n (j + 1) (build_one store m warm substep j s) (built-length j s ∙ o) (omega arith) (λ q' i' h' c'. now q' i' (omega arith) c') q i (omega arith) c
          where
            now : (q i : ℕ) → q ≤ j → i < row_count store m.words q → Own (build_one store m warm substep j s) q i
            now q i h c = elim (eq-or-lt_of_le h) [
              | inl e ↦ subst (λ (x : ℕ). Own (build_one store m warm substep j s) x i) (sym e) (built-own j i s (omega arith) (subst (λ (x : ℕ). i < row_count store m.words x) e c) o)
              | inr l ↦ built-other j q i s (λ e. omega arith) c (before q i l c)
            ]

    -- all rows have what is their bodies'
    abbrev pub Carried : Model → List Float → Type 0
    Carried m s = (q i : ℕ) → q < joint_count store m.words m.numbers → i < row_count store m.words q → Own m s q i

    build-carried : (m : Model) (rows : List Float) (warm : Option Float) (substep : ℕ) → Room store m rows
        → Carried m (each_joint (build_one store m warm substep) 0 (joint_count store m.words m.numbers) rows)
    build-carried m rows warm substep room =
        λ q i h c. each-own m warm substep rows room (joint_count store m.words m.numbers) 0 rows refl (omega arith) (λ q' i' h' c'. absurd (omega arith)) q i (omega arith) c

    -- ---- other settings, mark and bodies of which the same is read, and as many joints

    pub same-masses : (m : Model) (params : IntegrationParameters) (mark : Bool) (b n s : List Float) → joint_count store m.words n ≡ joint_count store m.words m.numbers
        → ((i : ℕ) → mass_of (solver_pose_at b i) ≡ mass_of (solver_pose_at m.bodies i)) → Carried m s → Carried (model params mark b m.words n) s
    same-masses m params mark b n s e p c j i h l =
        let r = row_at s (rows_before store m.words j + i) in
        subst (λ (a : Mass). RowHas a (mass_of (solver_pose_at b (body2_at m.words j))) r) (sym (p (body1_at m.words j)))
        (subst (λ (a : Mass). RowHas (mass_of (solver_pose_at m.bodies (body1_at m.words j))) a r) (sym (p (body2_at m.words j))) (c j i (rw (← e) h) l))

    poses-masses : (b b' : List Float) → SamePoses laws b b' → (i : ℕ) → mass_of (solver_pose_at b' i) ≡ mass_of (solver_pose_at b i)
    poses-masses b b' p i = ap mass_of (laws.solver_pose_at-same p i)

    -- ---- rows at work

    module _ (m : Model) (rows : List Float) (room : Room store m rows) where
      in-storage : (s : List Float) (k : ℕ) → length s ≡ length rows → k < total_rows store m.words m.numbers → k * row_width + row_width ≤ length s
      in-storage s k e h = rw e (omega (arith, rows_fit store rows (suc k) (omega (arith, room)), suc-mul k row_width))

      -- a row that is stored in row k's place with what row k has
      stored-masses : (a b : Mass) (s : List Float) (k q : ℕ) (r : JointConstraint) → length s ≡ length rows → k < total_rows store m.words m.numbers → (RowHas a b (row_at s k) → RowHas a b r)
          → RowHas a b (row_at s q) → RowHas a b (row_at (put_row s k r) q)
      stored-masses a b s k q r e h f o =
          by_eqb q k
          (λ x. subst (RowHas a b) (sym (ap (row_at (put_row s k r)) x ∙ laws.row_at-put_row s k r (in-storage s k e h))) (f (subst (λ (y : ℕ). RowHas a b (row_at s y)) x o)))
          (λ n. subst (RowHas a b) (sym (laws.row_at-put_row-other s k q r n)) o)

      -- storage of the same length, in which all rows have what is their bodies'
      record Good (s : List Float) : Type 0 where
        size : length s ≡ length rows
        own : Carried m s

      good-put : (s : List Float) (k : ℕ) (r : JointConstraint) → Good s → k < total_rows store m.words m.numbers → ((a b : Mass) → RowHas a b (row_at s k) → RowHas a b r) → Good (put_row s k r)
      good-put s k r g h f = record {
        size = laws.length-put_row s k r ∙ g.size;
        own = λ q i x y. stored-masses _ _ s k (rows_before store m.words q + i) r g.size h (f _ _) (g.own q i x y);
      }

      good-steps : (ts : List RowStep) (st : State) → EveryStep (Placed store m) ts → Good st.rows → Good (after_steps store ts st).rows
      unfolding after_steps sweep_row
      good-steps [] st p g = g
      good-steps (t ∷ ts) st p g =
          good-steps ts (after_step store t st) p.1 (good-put st.rows t.row _ g p.0.within (λ a b. carries.stepped a b (row_at st.rows t.row) _ _))

      good-bias : (n k : ℕ) (s : List Float) → k + n ≤ total_rows store m.words m.numbers → Good s → Good (remove_bias_joint store k n s)
      unfolding remove_bias_joint
      good-bias zero k s h g = g
      good-bias (suc n) k s h g = good-bias n (k + 1) _ (omega arith) (good-put s k _ g (omega arith) (λ a b. carries.freed a b (row_at s k)))

      good-bias-all : (n j : ℕ) (s : List Float) → j + n ≤ joint_count store m.words m.numbers → Good s → Good (each_joint (remove_bias_one store m.words) j n s)
      unfolding each_joint remove_bias_one
      good-bias-all zero j s h g = g
      good-bias-all (suc n) j s h g =
          good-bias-all n (j + 1) _ (omega arith)
          (good-bias (row_count store m.words j) (rows_before store m.words j) s (before-later (layout_of store m) j (joint_count store m.words m.numbers) (omega arith)) g)

    -- ---- a call

    -- where the model is marked built, its rows have what is their bodies'
    abbrev pub Kept : Model → List Float → Type 0
    Kept m rows = m.built ≡ true → Carried m rows

    granted-kept : (c : Call sys) (m : Model) (rows : List Float) → Kept m rows → refusal (rules_of sys c m rows) ≡ 0 → Kept (granted_of sys c m rows).after (granted_of sys c m rows).rows
    unfolding granted_of
    granted-kept load m rows k e b = absurd (false≢true b)
    granted-kept (place i p) m rows k e b = same-masses m m.params m.built (put_pose m.bodies i p) m.numbers rows refl (carries.placed m.bodies i p) (k b)
    granted-kept (build warm substep) m rows k e b = build-carried m rows warm substep (granted-room laws (build warm substep) m rows (finite_warm warm) refl e).1
    granted-kept warm_start m rows k e b =
        same-masses m m.params m.built _ m.numbers rows refl (poses-masses m.bodies _ (warm-keeps laws m.bodies m.words rows 0 (joint_count store m.words m.numbers))) (k b)
    granted-kept (sweep n) m rows k e b =
        let g = granted-room laws (sweep n) m rows true refl e in
        let joints = joint_count store m.words m.numbers in
        let st = state rows m.bodies in
        same-masses m m.params m.built _ m.numbers _ refl (poses-masses m.bodies _ (sweep-keeps laws m.bodies rows m.words joints n).poses)
        (subst (λ (t : State). Good m rows g.1 t.rows) (sym (sweep-is store m.words joints n st))
        (good-steps m rows g.1 (sweep_steps store m n) st (placed-sweep store m g.0 n) (record { size = refl; own = k b }))).own
    granted-kept remove_bias m rows k e b =
        let g = granted-room laws remove_bias m rows true refl e in
        (good-bias-all m rows g.1 (joint_count store m.words m.numbers) 0 rows (omega arith) (record { size = refl; own = k b })).own
    granted-kept write_back m rows k e b =
        same-masses m m.params m.built m.bodies _ rows (same-joints store m.words m.numbers _ (back-keeps laws m.words m.numbers rows 0 (joint_count store m.words m.numbers)).size) (λ i. refl) (k b)
    granted-kept (read_rows j) m rows k e b = k b
    granted-kept (read_velocity i) m rows k e b = k b
    granted-kept (set_masks j ms) m rows k e b = absurd (false≢true b)
    granted-kept (further f) m rows k e b =
        same-masses m m.params m.built m.bodies _ rows (same-joints store m.words m.numbers (sys.further_numbers f m) (laws.further_same f m).size) (λ i. refl) (k b)

    pub run-kept : (c : Call sys) (m : Model) (rows : List Float) → Kept m rows → Kept (run sys c m rows).after (run sys c m rows).rows
    run-kept c m rows k = run-cases laws c m rows (λ o. Kept o.after o.rows) (granted-kept c m rows k) k

    -- ---- a study

    -- Calls of which each keeps it, and of which a study starts not built. A model's own are such (`model-keeps`).
    pub record CallsKeep (calls : Calls sys) : Type 0 where
      pub turn : (c : calls.Call) (m : Model) (rows : List Float) → Kept m rows → Kept (calls.run c m rows).after (calls.run c m rows).rows
      pub start : (s : Study (machine calls)) → Loaded calls s → s.model.built ≡ false

    pub model-keeps : CallsKeep (model_calls sys)
    model-keeps = record { turn = run-kept; start = λ s l. (loaded-start laws s l).1 }

    module _ (calls : Calls sys) (ok : CallsKeep calls) where
      next-kept : (g : Given (machine calls)) (s : Study (machine calls)) → Kept s.model s.rows → let o = calls.run g.call s.model (handed s g.lent) in Kept o.after o.rows
      next-kept g s k = ok.turn g.call s.model (handed s g.lent) (λ b. subst (λ (t : Bool). Carried s.model (cond t s.rows g.lent)) (sym b) (k b))

      after_kept : (gs : List (Given (machine calls))) (s : Study (machine calls)) → Kept s.model s.rows → Kept (after_calls gs s).model (after_calls gs s).rows
      unfolding after_calls
      after_kept [] s k = k
      after_kept (g ∷ gs) s k = after_kept gs _ (next-kept g s k)

      -- in a study that starts as its granted load left it, after any list of calls: where the model is marked built, each row has what is its bodies'
      pub study-carried : (gs : List (Given (machine calls))) (s : Study (machine calls)) → Loaded calls s → Kept (after_calls gs s).model (after_calls gs s).rows
      study-carried gs s l = after_kept gs s (λ b. absurd (false≢true (sym (ok.start s l) ∙ b)))

    -- ---- a sweep's steps: each finds it in its row

    abbrev pub HasMasses : Model → List Float → RowStep → Type 0
    HasMasses m s t = RowHas (mass_of (solver_pose_at m.bodies t.body1)) (mass_of (solver_pose_at m.bodies t.body2)) (row_at s t.row)

    module _ (m : Model) (s : List Float) (c : Carried m s) where
      own-joint : (j : ℕ) → j < joint_count store m.words m.numbers → (n i : ℕ) → i + n ≤ row_count store m.words j
          → EveryStep (HasMasses m s) (joint_steps (rows_before store m.words j + i) n (body1_at m.words j) (body2_at m.words j))
      unfolding joint_steps
      own-joint j h zero i l = tt
      own-joint j h (suc n) i l = (
        c j i h (omega arith),
        subst (λ (k : ℕ). EveryStep (HasMasses m s) (joint_steps k n (body1_at m.words j) (body2_at m.words j))) (onward (rows_before store m.words j) i) (own-joint j h n (i + 1) (omega arith)),
      )
        where
          onward : (a b : ℕ) → a + (b + 1) ≡ a + b + 1
          onward a b = omega arith

      own-round : (n j : ℕ) → j + n ≤ joint_count store m.words m.numbers → EveryStep (HasMasses m s) (joints_steps store m.words j n)
      unfolding joints_steps
      own-round zero j l = tt
      own-round (suc n) j l =
          every_append (HasMasses m s) (joint_steps (rows_before store m.words j) (row_count store m.words j) (body1_at m.words j) (body2_at m.words j)) (joints_steps store m.words (j + 1) n)
          (subst (λ (k : ℕ). EveryStep (HasMasses m s) (joint_steps k (row_count store m.words j) (body1_at m.words j) (body2_at m.words j))) (add-zero (rows_before store m.words j))
          (own-joint j (omega arith) (row_count store m.words j) 0 (omega arith)))
          (own-round n (j + 1) (omega arith))

    module _ (m : Model) (rows : List Float) (room : Room store m rows) where
      step-size : (t : RowStep) (st : State) → length (after_step store t st).rows ≡ length st.rows
      unfolding sweep_row
      step-size t st = laws.length-put_row st.rows t.row _

      step-own : (t : RowStep) (st : State) → Placed store m t → length st.rows ≡ length rows → (u : RowStep) → HasMasses m st.rows u → HasMasses m (after_step store t st).rows u
      unfolding sweep_row
      step-own t st p size u o =
          stored-masses m rows room _ _ st.rows t.row u.row _ size p.within (carries.stepped _ _ (row_at st.rows t.row) _ _) o

      steps-own : (ts : List RowStep) (st : State) → EveryStep (Placed store m) ts → length st.rows ≡ length rows → EveryStep (HasMasses m st.rows) ts
          → EachStep store (λ t st. HasMasses m st.rows t) ts st
      unfolding EachStep
      steps-own [] st p size o = tt
      steps-own (t ∷ ts) st p size o = (o.0, steps-own ts (after_step store t st) p.1 (step-size t st ∙ size) (every_map _ _ ts (step-own t st p.0 size) o.1))

    pub sweep-carried : (m : Model) (rows : List Float) (n : ℕ) → Sound store m → Room store m rows → Carried m rows
        → EachStep store (λ t st. HasMasses m st.rows t) (sweep_steps store m n) (state rows m.bodies)
    sweep-carried m rows n ok room c =
        steps-own m rows room (sweep_steps store m n) (state rows m.bodies) (placed-sweep store m ok n) refl
        (every-repeated (HasMasses m rows) (round_steps store m) (own-round m rows c (joint_count store m.words m.numbers) 0 (omega arith)) n)
