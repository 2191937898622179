-- R-13 added up over a sweep of any kind of system. A quantity that each body has of its velocity, as its momentum along an axis: a step changes its sum over any distinct bodies that have the step's two
-- among them as it changes that of the two (`step-over`), and the changes of a list of steps add up (`steps-drift`): so any granted sweep whose every step changes the sum of its two bodies by at most
-- its bound changes the sum over the bodies that the rows name by at most its steps' bounds together (`sweep-drift`). Assumes nothing.
use mathlib.Core.Path.{◌≡◌, refl, sym, ap, ◌∙◌, subst}
use mathlib.Core.Logic.{◌≢◌}
use mathlib.Core.Bool.{true}
use mathlib.Core.List.{List, [], ◌∷◌}
use Prim.Native.Nat.{ℕ, ◌*◌, ◌≤◌}
use lib.Dec.{T}
use lib.ListN.{length}
use lib.IntN.{ℤ, nat_abs, ◌+ℤ◌, ◌-ℤ◌}
use lib.Ieee.{Float}
use lib.Ieee.Bits.{is_true}
use Rattle.multibody.specs.Rules.{refusal}
use Rattle.multibody.specs.Model.{Model, world}
use Rattle.multibody.specs.Store.{Store}
use Rattle.multibody.specs.System.{System}
use Rattle.multibody.specs.JointRows.{State, state, sweep_row}
use Rattle.multibody.specs.Counts.{joint_count}
use Rattle.multibody.specs.Refusals.{sweep_rule, built_rule}
use Rattle.multibody.specs.Calls.{rules_of, granted_of, run, refusal_of, rounds, sweep_round}
use Rattle.multibody.specs.Calls.Call.{sweep}
use Rattle.multibody.specs.SweepSteps.{RowStep, round_steps, sweep_steps, after_step, EachStep, bounds_over, among, named_bodies, sum_over}
use Rattle.multibody.proofs.Laws.{Laws}
use Rattle.multibody.proofs.RowWorks.{length-put_both, vel_at-put_both-other, vel_at-put_both-first, vel_at-put_both-second}
use Rattle.multibody.proofs.CallLaws.{run-granted, own-rule}
use Rattle.multibody.proofs.RefusedExactly.{told}
use Rattle.multibody.proofs.BodySums.{distinct, two, carried, chained, still}
use Rattle.multibody.proofs.SweepSteps.{after_steps, sweep-is, EveryStep, every-repeated, Placed, placed-sweep, Covered, named-distinct, named-covers}
use Rattle.multibody.proofs.RowsCarry.{by_eqb, granted-room}

-- two facts of each step, and that its two bodies are among some, make a third
pub each-with : (store : Store) (bs : List ℕ) (P Q R : RowStep → State → Type 0) → ((t : RowStep) (st : State) → Covered bs t → P t st → Q t st → R t st)
    → (ts : List RowStep) (st : State) → EveryStep (Covered bs) ts → EachStep store P ts st → EachStep store Q ts st → EachStep store R ts st
unfolding EachStep
each-with store bs P Q R f [] st c p q = tt
each-with store bs P Q R f (t ∷ ts) st c p q = (f t st c.0 p.0 q.0, each-with store bs P Q R f ts (after_step store t st) c.1 p.1 q.1)

-- ---- one step, over any way of keeping the velocities: v before, v' after

step-over : {Vel : Type 0} (q : ℕ → Vel → ℤ) (bs : List ℕ) (v v' : ℕ → Vel) (b1 b2 : ℕ) (new1 new2 : Vel) (r : ℕ) → b1 ≢ b2 → T (distinct bs) → T (among b1 bs) → T (among b2 bs)
    → v' b1 ≡ new1 → v' b2 ≡ new2 → ((b : ℕ) → T (among b bs) → b ≢ b1 → b ≢ b2 → v' b ≡ v b) → 2 * nat_abs (q b1 new1 +ℤ q b2 new2 -ℤ (q b1 (v b1) +ℤ q b2 (v b2))) ≤ r
    → 2 * nat_abs (sum_over bs (λ b. q b (v' b)) -ℤ sum_over bs (λ b. q b (v b))) ≤ r
step-over q bs v v' b1 b2 new1 new2 r n d p s e1 e2 o h =
    carried (sum_over bs (λ b. q b (v' b))) (sum_over bs (λ b. q b (v b))) (q b1 (v' b1) +ℤ q b2 (v' b2)) (q b1 (v b1) +ℤ q b2 (v b2)) r
    (two bs (λ b. q b (v b)) (λ b. q b (v' b)) b1 b2 n d p s (λ c m y z. ap (q c) (o c m y z))) (rw (e1, e2) h)

module _ {sys : System} (laws : Laws sys) where
  open sys use {store}
  open store use {SolverVel, JointConstraint, row_at, vel_at, step_of}

  -- ---- a granted sweep is its rounds, of a model marked built

  granted-bodies : (m : Model) (rows : List Float) (n : ℕ) → refusal (rules_of sys (sweep n) m rows) ≡ 0
      → (rounds (sweep_round store m.words (joint_count store m.words m.numbers)) n (state rows m.bodies)).bodies ≡ (run sys (sweep n) m rows).after.bodies
  unfolding granted_of
  granted-bodies m rows n e = ap (λ o. o.after.bodies) (run-granted (sweep n) m rows e)

  pub granted-rules : (m : Model) (rows : List Float) (n : ℕ) → refusal_of (run sys (sweep n) m rows).answer ≡ 0 → refusal (rules_of sys (sweep n) m rows) ≡ 0
  granted-rules m rows n g = sym (told laws (sweep n) m rows) ∙ g

  pub granted-built : (m : Model) (rows : List Float) (n : ℕ) → refusal (rules_of sys (sweep n) m rows) ≡ 0 → m.built ≡ true
  unfolding sweep_rule built_rule
  granted-built m rows n e = own-rule laws 10 (sweep n) m rows e

  -- what is known of a velocity that a step leaves, and of those that a step finds
  module _ (Fits : SolverVel → Type 0) (fits1 : (r : JointConstraint) (v1 v2 : SolverVel) → Fits (step_of r v1 v2).vel1) (fits2 : (r : JointConstraint) (v1 v2 : SolverVel) → Fits (step_of r v1 v2).vel2) where
    -- ---- a list of steps

    module _ (m : Model) (bs : List ℕ) where
      -- as many numbers of bodies as the model has, and velocities that fit
      record Steady (st : State) : Type 0 where
        bodies : length st.bodies ≡ length m.bodies
        velocities : (b : ℕ) → T (among b bs) → Fits (vel_at st.bodies b)

      module _ (t : RowStep) (st : State) (p : Placed store m t) (k : Steady st) (moves1 : t.body1 ≢ world) (moves2 : t.body2 ≢ world) where
        step-vel1 : vel_at (after_step store t st).bodies t.body1 ≡ (step_of (row_at st.rows t.row) (vel_at st.bodies t.body1) (vel_at st.bodies t.body2)).vel1
        unfolding sweep_row
        step-vel1 = vel_at-put_both-first laws st.bodies t.body1 t.body2 _ _ moves1 (rw k.bodies (p.there1 moves1)) p.apart

        step-vel2 : vel_at (after_step store t st).bodies t.body2 ≡ (step_of (row_at st.rows t.row) (vel_at st.bodies t.body1) (vel_at st.bodies t.body2)).vel2
        unfolding sweep_row
        step-vel2 = vel_at-put_both-second laws st.bodies t.body1 t.body2 _ _ moves2 (rw k.bodies (p.there2 moves2))

        step_other : (b : ℕ) → b ≢ t.body1 → b ≢ t.body2 → vel_at (after_step store t st).bodies b ≡ vel_at st.bodies b
        unfolding sweep_row
        step_other b n1 n2 = vel_at-put_both-other laws st.bodies t.body1 t.body2 _ _ b n1 n2

        step-steady : Steady (after_step store t st)
        step-steady = record {
          bodies = unfold sweep_row in (length-put_both laws st.bodies t.body1 t.body2 _ _ ∙ k.bodies);
          velocities = λ b h.
              by_eqb b t.body1
              (λ e. subst (λ (c : ℕ). Fits (vel_at (after_step store t st).bodies c)) (sym e) (subst Fits (sym step-vel1) (fits1 _ _ _)))
              (λ n1. by_eqb b t.body2
              (λ e. subst (λ (c : ℕ). Fits (vel_at (after_step store t st).bodies c)) (sym e) (subst Fits (sym step-vel2) (fits2 _ _ _)))
              (λ n2. subst Fits (sym (step_other b n1 n2)) (k.velocities b h)));
        }

    -- both bodies of a step move, and from velocities that fit it changes the sum of its two by at most its bound; both sides are doubled
    module _ (q : ℕ → SolverVel → ℤ) (bound : RowStep → State → ℕ) where
      pub record StepDrifts (t : RowStep) (st : State) : Type 0 where
        pub moves1 : t.body1 ≢ world
        pub moves2 : t.body2 ≢ world
        pub near : let v1 = vel_at st.bodies t.body1 in
            let v2 = vel_at st.bodies t.body2 in
            let o = step_of (row_at st.rows t.row) v1 v2 in
            Fits v1 → Fits v2 → 2 * nat_abs (q t.body1 o.vel1 +ℤ q t.body2 o.vel2 -ℤ (q t.body1 v1 +ℤ q t.body2 v2)) ≤ bound t st

      -- the sum over some bodies, with their velocities in a storage
      abbrev pub total_over : List ℕ → List Float → ℤ
      total_over bs bodies = sum_over bs (λ b. q b (vel_at bodies b))

      steps-drift : (m : Model) (bs : List ℕ) → T (distinct bs) → (ts : List RowStep) (st : State) → EveryStep (Covered bs) ts → EveryStep (Placed store m) ts → Steady m bs st → EachStep store StepDrifts ts st
          → 2 * nat_abs (total_over bs (after_steps store ts st).bodies -ℤ total_over bs st.bodies) ≤ bounds_over store bound ts st
      unfolding after_steps EachStep bounds_over
      steps-drift m bs d [] st c p k a = still (total_over bs st.bodies)
      steps-drift m bs d (t ∷ ts) st c p k a =
          let n1 = a.0.moves1 in
          let n2 = a.0.moves2 in
          chained (total_over bs st.bodies) (total_over bs (after_step store t st).bodies) (total_over bs (after_steps store ts (after_step store t st)).bodies) (bound t st) (bounds_over store bound ts (after_step store t st))
          (step-over q bs (vel_at st.bodies) (vel_at (after_step store t st).bodies) t.body1 t.body2 _ _ (bound t st) p.0.apart d c.0.0 c.0.1
          (step-vel1 m bs t st p.0 k n1 n2) (step-vel2 m bs t st p.0 k n1 n2) (λ b h. step_other m bs t st p.0 k n1 n2 b)
          (a.0.near (k.velocities t.body1 c.0.0) (k.velocities t.body2 c.0.1)))
          (steps-drift m bs d ts (after_step store t st) c.1 p.1 (step-steady m bs t st p.0 k n1 n2) a.1)

      -- ---- a granted sweep

      pub sweep-drift : (m : Model) (rows : List Float) (n : ℕ) → refusal_of (run sys (sweep n) m rows).answer ≡ 0
          → ((b : ℕ) → among b (named_bodies (round_steps store m)) ≡ true → Fits (vel_at m.bodies b))
          → EachStep store StepDrifts (sweep_steps store m n) (state rows m.bodies)
          → 2 * nat_abs (total_over (named_bodies (round_steps store m)) (run sys (sweep n) m rows).after.bodies -ℤ total_over (named_bodies (round_steps store m)) m.bodies)
          ≤ bounds_over store bound (sweep_steps store m n) (state rows m.bodies)
      sweep-drift m rows n g v a =
          let e = granted-rules m rows n g in
          let bs = named_bodies (round_steps store m) in
          let ts = sweep_steps store m n in
          let st = state rows m.bodies in
          let after : (after_steps store ts st).bodies ≡ (run sys (sweep n) m rows).after.bodies =
          ap (λ (s : State). s.bodies) (sym (sweep-is store m.words (joint_count store m.words m.numbers) n st)) ∙ granted-bodies m rows n e in
          subst (λ (b : List Float). 2 * nat_abs (total_over bs b -ℤ total_over bs m.bodies) ≤ bounds_over store bound ts st) after
          (steps-drift m bs (named-distinct (round_steps store m)) ts st
          (every-repeated (Covered bs) (round_steps store m) (named-covers (round_steps store m)) n)
          (placed-sweep store m (granted-room laws (sweep n) m rows true refl e).0 n)
          (record { bodies = refl; velocities = λ b k. v b (is_true (among b bs) k) }) a)
