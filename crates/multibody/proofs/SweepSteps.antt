-- A sweep is its list of steps (`sweep-is`). Each step's bodies are there and differ, and its row is among the model's (`placed-sweep`); the bodies that the rows name are
-- distinct (`named-distinct`), and every step's two are among them (`named-covers`). Assumes nothing.
use mathlib.Core.Path.{◌≡◌, refl, sym, ap, ◌∙◌}
use mathlib.Core.Logic.{◌≢◌}
use mathlib.Core.List.{List, [], ◌∷◌, ◌++◌}
use Prim.Native.Nat.{ℕ, zero, suc, ◌+◌, ◌≤◌, ◌<◌}
use native.Mathlib.Omega.{arith}
use lib.Dec.{T}
use Rattle.multibody.specs.Model.{Model}
use Rattle.multibody.specs.Store.{Store}
use Rattle.multibody.specs.JointRows.{State, row_count, sweep_row, sweep_joint}
use Rattle.multibody.specs.Counts.{joint_count, rows_before, total_rows, Present, Sound}
use Rattle.multibody.specs.Calls.{each_joint, rounds, sweep_one, sweep_round}
use Rattle.multibody.specs.SweepSteps.{RowStep, joint_steps, joints_steps, round_steps, repeated, sweep_steps, after_step, among, with_body, named_bodies}
use Rattle.multibody.proofs.JointLocality.{before-later}
use Rattle.multibody.proofs.ClosedSet.{layout_of}
use Rattle.multibody.proofs.BodySums.{distinct, with-distinct, with-has, with-keeps}

-- ---- what holds of every step

abbrev pub EveryStep : (RowStep → Type 0) → List RowStep → Type 0
EveryStep P [] = Unit
EveryStep P (t ∷ ts) = P t × EveryStep P ts

pub every_append : (P : RowStep → Type 0) (ts us : List RowStep) → EveryStep P ts → EveryStep P us → EveryStep P (ts ++ us)
every_append P [] us p q = q
every_append P (t ∷ ts) us p q = (p.0, every_append P ts us p.1 q)

pub every_map : (P Q : RowStep → Type 0) (ts : List RowStep) → ((t : RowStep) → P t → Q t) → EveryStep P ts → EveryStep Q ts
every_map P Q [] f e = tt
every_map P Q (t ∷ ts) f e = (f t e.0, every_map P Q ts f e.1)

pub every-repeated : (P : RowStep → Type 0) (ts : List RowStep) → EveryStep P ts → (n : ℕ) → EveryStep P (repeated n ts)
unfolding repeated
every-repeated P ts e zero = tt
every-repeated P ts e (suc n) = every_append P ts (repeated n ts) e (every-repeated P ts e n)

module _ (store : Store) where
  open store use {body1_at, body2_at}

  -- ---- a sweep is its steps in order

  -- the state after a list of steps
  unfoldable pub after_steps : List RowStep → State → State
  after_steps [] st = st
  after_steps (t ∷ ts) st = after_steps ts (after_step store t st)

  steps-append : (ts us : List RowStep) (st : State) → after_steps (ts ++ us) st ≡ after_steps us (after_steps ts st)
  unfolding after_steps
  steps-append [] us st = refl
  steps-append (t ∷ ts) us st = steps-append ts us (after_step store t st)

  joint-is : (n k b1 b2 : ℕ) (st : State) → sweep_joint store k n b1 b2 st ≡ after_steps (joint_steps k n b1 b2) st
  unfolding sweep_joint joint_steps after_steps
  joint-is zero k b1 b2 st = refl
  joint-is (suc n) k b1 b2 st = joint-is n (k + 1) b1 b2 (sweep_row store k b1 b2 st)

  round_is : (words : List ℕ) (n j : ℕ) (st : State) → each_joint (sweep_one store words) j n st ≡ after_steps (joints_steps store words j n) st
  unfolding each_joint joints_steps sweep_one
  round_is words zero j st = unfold after_steps in refl
  round_is words (suc n) j st =
      let ts = joint_steps (rows_before store words j) (row_count store words j) (body1_at words j) (body2_at words j) in
      ap (each_joint (sweep_one store words) (j + 1) n) (joint-is (row_count store words j) (rows_before store words j) (body1_at words j) (body2_at words j) st)
      ∙ round_is words n (j + 1) (after_steps ts st)
      ∙ sym (steps-append ts (joints_steps store words (j + 1) n) st)

  pub sweep-is : (words : List ℕ) (joints n : ℕ) (st : State) → rounds (sweep_round store words joints) n st ≡ after_steps (repeated n (joints_steps store words 0 joints)) st
  unfolding rounds repeated sweep_round
  sweep-is words joints zero st = unfold after_steps in refl
  sweep-is words joints (suc n) st =
      ap (rounds (sweep_round store words joints) n) (round_is words joints 0 st)
      ∙ sweep-is words joints n (after_steps (joints_steps store words 0 joints) st)
      ∙ sym (steps-append (joints_steps store words 0 joints) (repeated n (joints_steps store words 0 joints)) st)

  -- ---- each step's bodies are there and differ, and its row is among the model's

  pub record Placed (m : Model) (t : RowStep) : Type 0 where
    pub apart : t.body1 ≢ t.body2
    pub there1 : Present store m.bodies t.body1
    pub there2 : Present store m.bodies t.body2
    pub within : t.row < total_rows store m.words m.numbers

  module _ (m : Model) (ok : Sound store m) where
    placed-joint : (j : ℕ) → j < joint_count store m.words m.numbers → (n k : ℕ) → k + n ≤ total_rows store m.words m.numbers
        → EveryStep (Placed m) (joint_steps k n (body1_at m.words j) (body2_at m.words j))
    unfolding joint_steps
    placed-joint j h zero k l = tt
    placed-joint j h (suc n) k l = (
      record { apart = ok.apart j h; there1 = ok.present1 j h; there2 = ok.present2 j h; within = omega arith },
      placed-joint j h n (k + 1) (omega arith),
    )

    placed-round : (n j : ℕ) → j + n ≤ joint_count store m.words m.numbers → EveryStep (Placed m) (joints_steps store m.words j n)
    unfolding joints_steps
    placed-round zero j l = tt
    placed-round (suc n) j l =
        let h : j < joint_count store m.words m.numbers = omega arith in
        every_append (Placed m) (joint_steps (rows_before store m.words j) (row_count store m.words j) (body1_at m.words j) (body2_at m.words j)) (joints_steps store m.words (j + 1) n)
        (placed-joint j h (row_count store m.words j) (rows_before store m.words j) (before-later (layout_of store m) j (joint_count store m.words m.numbers) h))
        (placed-round n (j + 1) (omega arith))

    pub placed-sweep : (n : ℕ) → EveryStep (Placed m) (sweep_steps store m n)
    placed-sweep n = every-repeated (Placed m) (round_steps store m) (placed-round (joint_count store m.words m.numbers) 0 (omega arith)) n

-- ---- the bodies that the rows name

abbrev pub Covered : List ℕ → RowStep → Type 0
Covered bs t = T (among t.body1 bs) × T (among t.body2 bs)

pub named-distinct : (ts : List RowStep) → T (distinct (named_bodies ts))
unfolding named_bodies distinct
named-distinct [] = tt
named-distinct (t ∷ ts) = with-distinct t.body1 (with_body t.body2 (named_bodies ts)) (with-distinct t.body2 (named_bodies ts) (named-distinct ts))

pub named-covers : (ts : List RowStep) → EveryStep (Covered (named_bodies ts)) ts
unfolding named_bodies
named-covers [] = tt
named-covers (t ∷ ts) =
    let bs = with_body t.body2 (named_bodies ts) in
    let more : (b : ℕ) → T (among b (named_bodies ts)) → T (among b (with_body t.body1 bs)) = λ b h. with-keeps t.body1 b bs (with-keeps t.body2 b (named_bodies ts) h) in (
      (with-has t.body1 bs, with-keeps t.body1 t.body2 bs (with-has t.body2 (named_bodies ts))),
      every_map _ _ ts (λ u c. (more u.body1 c.0, more u.body2 c.1)) (named-covers ts),
    )
