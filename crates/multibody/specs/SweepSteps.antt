-- Document 02, R-13, over a sweep of any kind of system: its steps as a list, the bodies that its rows name, and sums over bodies and over steps.
use Rattle.std.specs.Prelude.{ℕ, zero, suc, ◌+◌, Bool, false, ◌||◌, cond, List, [], ◌∷◌, ◌++◌, eqb, ℤ, pos, ◌+ℤ◌}
use Rattle.multibody.specs.Model.{Model}
use Rattle.multibody.specs.Store.{Store}
use Rattle.multibody.specs.JointRows.{State, row_count, sweep_row}
use Rattle.multibody.specs.Counts.{joint_count, rows_before}

-- ---- the steps of a sweep

-- the step of a row between two bodies
pub record RowStep : Type 0 where
  pub row : ℕ
  pub body1 : ℕ
  pub body2 : ℕ

-- those of n rows from row k on, between bodies b1 and b2
unfoldable pub joint_steps : ℕ → ℕ → ℕ → ℕ → List RowStep
joint_steps k zero b1 b2 = []
joint_steps k (suc n) b1 b2 = record { row = k; body1 = b1; body2 = b2 } ∷ joint_steps (k + 1) n b1 b2

-- those of n rounds
unfoldable pub repeated : {A : Type 0} → ℕ → List A → List A
repeated zero l = []
repeated (suc n) l = l ++ repeated n l

module _ (store : Store) where
  open store use {body1_at, body2_at}

  -- those of n joints from joint j on
  unfoldable pub joints_steps : List ℕ → ℕ → ℕ → List RowStep
  joints_steps words j zero = []
  joints_steps words j (suc n) = joint_steps (rows_before store words j) (row_count store words j) (body1_at words j) (body2_at words j) ++ joints_steps words (j + 1) n

  -- those of a round: all rows of the model, in order
  abbrev pub round_steps : Model → List RowStep
  round_steps m = joints_steps m.words 0 (joint_count store m.words m.numbers)

  abbrev pub sweep_steps : Model → ℕ → List RowStep
  sweep_steps m n = repeated n (round_steps m)

  -- the state after a step
  abbrev pub after_step : RowStep → State → State
  after_step t st = sweep_row store t.row t.body1 t.body2 st

  -- it is so of each step in a list, one after the other
  unfoldable pub EachStep : (RowStep → State → Type 0) → List RowStep → State → Type 0
  EachStep P [] st = Unit
  EachStep P (t ∷ ts) st = P t st × EachStep P ts (after_step t st)

  -- the bounds of a list of steps together, each in the state that its step finds
  unfoldable pub bounds_over : (RowStep → State → ℕ) → List RowStep → State → ℕ
  bounds_over bound [] st = 0
  bounds_over bound (t ∷ ts) st = bound t st + bounds_over bound ts (after_step t st)

-- ---- the bodies that rows name, each once

unfoldable pub among : ℕ → List ℕ → Bool
among b [] = false
among b (c ∷ cs) = eqb b c || among b cs

unfoldable pub with_body : ℕ → List ℕ → List ℕ
with_body b bs = cond (among b bs) bs (b ∷ bs)

unfoldable pub named_bodies : List RowStep → List ℕ
named_bodies [] = []
named_bodies (t ∷ ts) = with_body t.body1 (with_body t.body2 (named_bodies ts))

unfoldable pub sum_over : List ℕ → (ℕ → ℤ) → ℤ
sum_over [] f = pos 0
sum_over (b ∷ bs) f = f b +ℤ sum_over bs f
