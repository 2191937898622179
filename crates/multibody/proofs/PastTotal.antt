-- Storage past the total is never written: whatever the call and whatever it is handed, the row storage from the row after the total on stays as it was.
use Rattle.std.specs.Prelude.{Option}
use Prim.Native.Nat.{ℕ, zero, suc, ◌+◌, ◌*◌, ◌≤◌, ◌<◌}
use mathlib.Core.Path.{◌≡◌, refl, ◌∙◌}
use mathlib.Core.List.{List, [], ◌∷◌}
use native.Mathlib.Omega.{arith}
use lib.ListN.{length, drop}
use lib.Ieee.{Float}
use Rattle.floats.specs.Operators.{bits}
use Rattle.rows.specs.RowIds.{filled}
use Rattle.multibody.specs.System.{System}
use Rattle.multibody.specs.JointRows.{State, state, row_count, put_rows, impulses_at, build_joint, sweep_row, sweep_joint, remove_bias_joint, built_rows}
use Rattle.multibody.specs.Model.{Model}
use Rattle.multibody.specs.Counts.{joint_count, rows_before, total_rows}
use Rattle.multibody.specs.Calls.{Call, Outcome, each_joint, rounds, build_one, sweep_one, sweep_round, remove_bias_one, granted_of, run}
use Rattle.multibody.specs.Calls.Call.{load, place, build, warm_start, sweep, remove_bias, write_back, read_rows, read_velocity, set_masks, further}
use Rattle.multibody.proofs.Laws.{Laws}
use Rattle.multibody.proofs.JointRowsLaws.{length-built_rows}
use Rattle.multibody.proofs.CountLaws.{rows_before-mono}
use Rattle.multibody.proofs.Keeps.{run-cases}

module _ {sys : System} (laws : Laws sys) where
  open sys use {store}
  open store use {most_rows, JointConstraint, row_width, put_row, body1_at, body2_at}

  -- what stands from row t on is the same
  abbrev pub Past : ℕ → List Float → List Float → Type 0
  Past t s s' = drop (t * row_width) s' ≡ drop (t * row_width) s

  -- ---- stores of rows before row t

  module _ (t : ℕ) where
    row-past : (s : List Float) (k : ℕ) (r : JointConstraint) → k < t → Past t s (put_row s k r)
    row-past s k r h = laws.put_row-past s k t r h

    rows-past : (rs : List JointConstraint) (s : List Float) (k : ℕ) → k + length rs ≤ t → Past t s (put_rows store s k rs)
    unfolding put_rows
    rows-past [] s k h = refl
    rows-past (r ∷ rs) s k h = rows-past rs (put_row s k r) (k + 1) (omega arith) ∙ row-past s k r (omega arith)

    swept-past : (n k b1 b2 : ℕ) (st : State) → k + n ≤ t → Past t st.rows (sweep_joint store k n b1 b2 st).rows
    unfolding sweep_joint sweep_row
    swept-past zero k b1 b2 st h = refl
    swept-past (suc n) k b1 b2 st h = swept-past n (k + 1) b1 b2 (sweep_row store k b1 b2 st) (omega arith) ∙ row-past st.rows k _ (omega arith)

    bias-past : (n k : ℕ) (s : List Float) → k + n ≤ t → Past t s (remove_bias_joint store k n s)
    unfolding remove_bias_joint
    bias-past zero k s h = refl
    bias-past (suc n) k s h = bias-past n (k + 1) (put_row s k _) (omega arith) ∙ row-past s k _ (omega arith)

    -- ---- all joints, and all rounds, of any work that keeps what stands from row t on

    module _ {A : Type 0} (view : A → List Float) where
      each-past : (work : ℕ → A → A) (n j : ℕ) (s : A) → ((i : ℕ) (s : A) → i < j + n → Past t (view s) (view (work i s))) → Past t (view s) (view (each_joint work j n s))
      unfolding each_joint
      each-past work zero j s h = refl
      each-past work (suc n) j s h = each-past work n (j + 1) (work j s) (λ i s l. h i s (omega arith)) ∙ h j s (omega arith)

      rounds-past : (work : A → A) (n : ℕ) (s : A) → ((s : A) → Past t (view s) (view (work s))) → Past t (view s) (view (rounds work n s))
      unfolding rounds
      rounds-past work zero s h = refl
      rounds-past work (suc n) s h = rounds-past work n (work s) h ∙ h s

  -- ---- the calls

  module _ (m : Model) (rows : List Float) where
    abbrev total : ℕ
    total = total_rows store m.words m.numbers

    -- joint j's rows end before row t
    ends : (j : ℕ) → j < joint_count store m.words m.numbers → rows_before store m.words j + row_count store m.words j ≤ total
    ends j h = rows_before-mono store m.words j (joint_count store m.words m.numbers) h

    build-past : (warm : Option Float) (substep j : ℕ) (s : List Float) → j < joint_count store m.words m.numbers → Past total s (build_one store m warm substep j s)
    unfolding build_one build_joint
    build-past warm substep j s h =
        let last = impulses_at store s (rows_before store m.words j) (row_count store m.words j) in
        let prevs = filled most_rows (bits 0) last in
        rows-past total (built_rows store m.params m.bodies m.words m.numbers j warm substep prevs) s (rows_before store m.words j)
        (rw (length-built_rows laws m.params substep warm m.bodies m.words m.numbers j prevs) (ends j h))

    sweep-past : (j : ℕ) (st : State) → j < joint_count store m.words m.numbers → Past total st.rows (sweep_one store m.words j st).rows
    unfolding sweep_one
    sweep-past j st h = swept-past total (row_count store m.words j) (rows_before store m.words j) (body1_at m.words j) (body2_at m.words j) st (ends j h)

    bias-one-past : (j : ℕ) (s : List Float) → j < joint_count store m.words m.numbers → Past total s (remove_bias_one store m.words j s)
    unfolding remove_bias_one
    bias-one-past j s h = bias-past total (row_count store m.words j) (rows_before store m.words j) s (ends j h)

    granted-past : (c : Call sys) → Past total rows (granted_of sys c m rows).rows
    unfolding granted_of sweep_round
    granted-past load = refl
    granted-past (place i pose) = refl
    granted-past (build warm substep) =
        each-past total (λ s. s) (build_one store m warm substep) (joint_count store m.words m.numbers) 0 rows (λ j s h. build-past warm substep j s (omega arith))
    granted-past warm_start = refl
    granted-past (sweep n) =
        rounds-past total (λ (st : State). st.rows) (sweep_round store m.words (joint_count store m.words m.numbers)) n (state rows m.bodies)
        (λ st. each-past total (λ (st : State). st.rows) (sweep_one store m.words) (joint_count store m.words m.numbers) 0 st (λ j st h. sweep-past j st (omega arith)))
    granted-past remove_bias =
        each-past total (λ s. s) (remove_bias_one store m.words) (joint_count store m.words m.numbers) 0 rows (λ j s h. bias-one-past j s (omega arith))
    granted-past write_back = refl
    granted-past (read_rows j) = refl
    granted-past (read_velocity i) = refl
    granted-past (set_masks j ms) = refl
    granted-past (further bytes) = refl

    pub past-total : (c : Call sys) → drop (total_rows store m.words m.numbers * row_width) (run sys c m rows).rows ≡ drop (total_rows store m.words m.numbers * row_width) rows
    past-total c = run-cases laws c m rows (λ (o : Outcome store). Past total rows o.rows) (λ _. granted-past c) refl
