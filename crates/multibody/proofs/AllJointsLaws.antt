-- The work on all joints, one turn of a loop at a time, and a sweep's rounds. Before turn j the first row is the one after the earlier joints' rows, and the
-- work from joint j on gives what the work on all joints gave at the start; at the end nothing is left. Stated once, for any work.
use mathlib.Core.Path.{◌≡◌, refl, sym, ap, ◌∙◌}
use mathlib.Core.List.{List, [], ◌∷◌, ◌++◌}
use Prim.Native.Nat.{ℕ, zero, suc, ◌+◌, ◌*◌, ◌-◌, ◌≤◌, ◌<◌}
use native.Mathlib.Nat.{add-zero, sub-zero}
use native.Mathlib.Omega.{arith}
use lib.ListN.{length, set}
use lib.Ieee.{Float}
use Rattle.rows.specs.RowIds.{filled}
use Rattle.multibody.specs.Store.{Store}
use Rattle.multibody.specs.JointRows.{row_count}
use Rattle.multibody.specs.Model.{Model, with_bodies}
use Rattle.multibody.specs.Counts.{Sound, body_count, joint_count, row_capacity, rows_before, total_rows}
use Rattle.multibody.specs.Calls.{each_joint, rounds, rows_from}
use Rattle.multibody.proofs.JointRowsLaws.{less, none, fill-turn}
use Rattle.multibody.proofs.CountLaws.{rows_before-none, rows_before-next, rows_before-mono, rows_fit}
use Rattle.multibody.proofs.StoredRows.{rows_from-length}

-- ---- rounds

module _ {A : Type 0} (work : A → A) (n i : ℕ) (s : A) where
  pub next-round : {s' : A} → i < n → s' ≡ work s → rounds work (n - (i + 1)) s' ≡ rounds work (n - i) s
  unfolding rounds
  next-round h e = rw (less n i h, e)

  pub no-round : n ≤ i → rounds work (n - i) s ≡ s
  unfolding rounds
  no-round h = rw (none n i h)

module _ (store : Store) where
  open store use {JointConstraint, row_width, row_at}

  -- ---- joints

  -- what holds before turn j of n, with s₀ at the start and s now
  pub record Turn {A : Type 0} (work : ℕ → A → A) (words : List ℕ) (n : ℕ) (s₀ : A) (j first : ℕ) (s : A) : Type 0 where
    pub within : j ≤ n
    pub begins : first ≡ rows_before store words j
    pub left : each_joint work j (n - j) s ≡ each_joint work 0 n s₀

  module _ {A : Type 0} (work : ℕ → A → A) (words : List ℕ) (n : ℕ) where
    pub first-turn : (s₀ : A) → Turn work words n s₀ 0 0 s₀
    first-turn s₀ = record { within = omega arith; begins = sym (rows_before-none store words); left = rw sub-zero }

    pub next-turn : {s₀ s s' : A} {j first count : ℕ} → Turn work words n s₀ j first s → j < n → count ≡ row_count store words j → s' ≡ work j s
        → Turn work words n s₀ (j + 1) (first + count) s'
    unfolding each_joint
    next-turn {j = j} t h c e = record {
      within = omega arith;
      begins = rw (t.begins, c, rows_before-next);
      left = rw e (rw (less n j h) at t.left);
    }

    -- once j is n, the work is done, and all rows are counted
    pub no-turn : {s₀ s : A} {j first : ℕ} → Turn work words n s₀ j first s → n ≤ j → s ≡ each_joint work 0 n s₀
    unfolding each_joint
    no-turn {j = j} t h = rw (none n j h) at t.left

    pub all-rows : {s₀ s : A} {j first : ℕ} → Turn work words n s₀ j first s → n ≤ j → first ≡ rows_before store words n
    all-rows {j = j} t h =
        let e : j ≡ n = omega arith in
        t.begins ∙ ap (rows_before store words) e

  -- joint j's rows lie within a storage that holds the total
  pub rows-within : (words : List ℕ) (numbers rows : List Float) {n j first count : ℕ} → total_rows store words numbers ≤ row_capacity store rows → n ≡ joint_count store words numbers
      → j < n → first ≡ rows_before store words j → count ≡ row_count store words j → (first + count) * row_width ≤ length rows
  rows-within words numbers rows {j = j} {first} {count} room e h b c =
      let ends : first + count ≤ row_capacity store rows = omega (arith, b, c, rows_before-mono store words j (joint_count store words numbers) (omega arith)) in
      rows_fit store rows (first + count) ends

  -- ---- what the rounds keep

  -- a model is sound as long as its list of bodies is as long
  pub still-sound : (m : Model) (b : List Float) → length b ≡ length m.bodies → Sound store m → Sound store (with_bodies m b)
  unfolding body_count
  still-sound m b e s = record { few = rw e s.few; present1 = λ j h. rw e (s.present1 j h); present2 = λ j h. rw e (s.present2 j h); apart = s.apart }

  -- a row storage holds as many rows as long as it is as long
  pub still-room : (rows₀ rows : List Float) {total : ℕ} → length rows ≡ length rows₀ → total ≤ row_capacity store rows₀ → total ≤ row_capacity store rows
  unfolding row_capacity
  still-room rows₀ rows e h = rw e h

  -- ---- one joint's rows read

  rows_snoc : (s : List Float) (k n : ℕ) → rows_from store s k (suc n) ≡ rows_from store s k n ++ (row_at s (k + n) ∷ [])
  unfolding rows_from
  rows_snoc s k zero = rw add-zero
  rows_snoc s k (suc n) =
      let e : k + suc n ≡ k + 1 + n = omega arith in
      rw e (ap (λ t. row_at s k ∷ t) (rows_snoc s (k + 1) n))

  -- one more row, in an array of so many that is filled up with d
  pub row-turn : (d : JointConstraint) (most : ℕ) (s : List Float) (k i : ℕ) {out : List JointConstraint} {row : JointConstraint} → i < most → out ≡ filled most d (rows_from store s k i)
      → row ≡ row_at s (k + i) → set out i row ≡ filled most d (rows_from store s k (i + 1))
  row-turn d most s k i h e r = fill-turn d (rows_from store s k) (λ n. row_at s (k + n)) (rows_from-length store s k) (rows_snoc s k) most i h e r

  pub no_rows : (s : List Float) (k : ℕ) → rows_from store s k 0 ≡ []
  unfolding rows_from
  no_rows s k = refl
