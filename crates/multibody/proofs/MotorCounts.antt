-- Motors at a bound (document 02, R-9). A joint's first rows are its motors', so that a count of these by number is the count by ids (`count-by-number`). Joint j's count in a round goes by
-- the state in which the round reaches it (`count_at`); and of rounds that each write every joint's count over the last round's, the last round's stays (`last-counts`). Assumes nothing.
use Prim.Native.Nat.{ℕ, zero, suc, ◌+◌, ◌-◌, ◌≤◌, ◌<◌}
use mathlib.Core.Path.{◌≡◌, refl, sym, ap, ◌∙◌}
use mathlib.Core.List.{List, [], ◌∷◌, ◌++◌}
use native.Mathlib.Nat.{add_assoc, add-zero, zero-add, not-suc-le-zero, le_of_suc-le-suc}
use native.Mathlib.Decide.{dec_lt}
use native.Mathlib.Omega.{arith}
use borrow.Author.Tests.{lt-ltb, le-ltb}
use lib.Dec.{ltb}
use lib.ListN.{length, get_or, set, drop, replicate, length-append, length-replicate}
use lib.Seq.{set_at, drop_at, append_snoc}
use Rattle.rows.specs.RowIds.{group_one, group_two, filled}
use Rattle.rows.specs.declared.joint_velocity_constraint.WritebackId.{WritebackId}
use Rattle.rows.specs.declared.joint_velocity_constraint.WritebackId.TheVariants.{Dof, Limit, Motor}
use Rattle.rows.proofs.Filled.{over-blank}
use Rattle.rows.proofs.RowIdsLaws.{All, IsMotor, IsRest, group-one, group-two, ids-groups}
use Rattle.multibody.specs.Store.{Store}
use Rattle.multibody.specs.JointRows.{State, row_masks_at, joint_ids, row_count, motor_count, sweep_row, sweep_joint, sweep_side, at_bound, motor_at_bound, count_ids, count_row, count_rows}
use Rattle.multibody.specs.Counts.{rows_before}
use Rattle.multibody.specs.Calls.{each_joint, rounds, sweep_one, sweep_round, count_one, count_round, sweep_counts, counted, counted_one, counted_round}
use Rattle.multibody.proofs.JointRowsLaws.{less, none}

all-zero : (n m : ℕ) → n ≤ m → replicate {A = ℕ} m 0 ≡ filled m 0 (replicate n 0)
all-zero zero zero h = refl
all-zero zero (suc m) h = ap (λ t. 0 ∷ t) (all-zero zero m (omega arith))
all-zero (suc n) zero h = absurd (not-suc-le-zero h)
all-zero (suc n) (suc m) h = ap (λ t. 0 ∷ t) (all-zero n m (le_of_suc-le-suc h))

module _ (store : Store) where
  open store use {linear, angular, body1_at, body2_at}

  -- ---- by ids and by number

  module _ (b1 b2 : ℕ) where
    -- no motor among them
    count-rest : (js : List WritebackId) (k : ℕ) (st : State) → All IsRest js → count_ids store js k b1 b2 st ≡ count_rows store 0 k (length js) b1 b2 st
    unfolding count_ids count_rows count_row motor_at_bound
    count-rest [] k st r = refl
    count-rest (Motor i ∷ js) k st r = absurd r.0
    count-rest (Dof i ∷ js) k st r = ap (λ t. 0 + t) (count-rest js (k + 1) (sweep_row store k b1 b2 st) r.1)
    count-rest (Limit i ∷ js) k st r = ap (λ t. 0 + t) (count-rest js (k + 1) (sweep_row store k b1 b2 st) r.1)

    -- motors first
    count-motors : (is js : List WritebackId) (k : ℕ) (st : State) → All IsMotor is → All IsRest js
        → count_ids store (is ++ js) k b1 b2 st ≡ count_rows store (length is) k (length (is ++ js)) b1 b2 st
    unfolding count_ids count_rows count_row motor_at_bound
    count-motors [] js k st m r = count-rest js k st r
    count-motors (Dof i ∷ is) js k st m r = absurd m.0
    count-motors (Limit i ∷ is) js k st m r = absurd m.0
    count-motors (Motor i ∷ is) js k st m r =
        let e : suc (length is) - 1 ≡ length is = omega arith in
        rw (lt-ltb 0 (suc (length is)) (omega arith), e)
        (ap (λ t. at_bound (sweep_side store k b1 b2 st) + t) (count-motors is js (k + 1) (sweep_row store k b1 b2 st) m.1 r))

  pub count-by-number : (words : List ℕ) (j k b1 b2 : ℕ) (st : State) → count_ids store (joint_ids store words j) k b1 b2 st ≡ count_rows store (motor_count store words j) k (row_count store words j) b1 b2 st
  unfolding joint_ids row_count motor_count
  count-by-number words j k b1 b2 st =
      let masks = row_masks_at store words j in
      rw (ids-groups linear angular masks) (count-motors b1 b2 (group_one linear angular masks) (group_two linear angular masks) k st (group-one linear angular masks) (group-two linear angular masks))

  -- ---- a joint's rows in turn

  still-motor : (i motors : ℕ) → ltb 0 (motors - i) ≡ ltb i motors
  still-motor i motors = elim (dec_lt i motors) [
    | yes h ↦ lt-ltb 0 (motors - i) (omega arith) ∙ sym (lt-ltb i motors h)
    | no h ↦ le-ltb 0 (motors - i) (omega arith) ∙ sym (le-ltb i motors (omega arith))
  ]

  -- what is left to count at turn i is row k + i and what is left at turn i + 1
  pub count_turn : (n i k motors b1 b2 : ℕ) (st : State) → i < n
      → count_rows store (motors - i) (k + i) (n - i) b1 b2 st
      ≡ count_row store i motors (sweep_side store (k + i) b1 b2 st) + count_rows store (motors - (i + 1)) (k + (i + 1)) (n - (i + 1)) b1 b2 (sweep_row store (k + i) b1 b2 st)
  unfolding count_rows count_row
  count_turn n i k motors b1 b2 st h =
      let e : motors - i - 1 ≡ motors - (i + 1) = omega arith in
      rw (less n i h, still-motor i motors, e, ← add_assoc k i 1)

  pub count-done : (n i k motors b1 b2 : ℕ) (st : State) → n ≤ i → count_rows store motors k (n - i) b1 b2 st ≡ 0
  unfolding count_rows
  count-done n i k motors b1 b2 st h = rw (none n i h)

  -- ---- all joints in turn

  -- joint j's turn, as the program has it
  pub counted-turn : (words : List ℕ) (j : ℕ) (st : State) (cs : List ℕ) {k n motors b1 b2 c : ℕ} {st' : State} → k ≡ rows_before store words j → n ≡ row_count store words j
      → motors ≡ motor_count store words j → b1 ≡ body1_at words j → b2 ≡ body2_at words j → c ≡ count_rows store motors k n b1 b2 st → st' ≡ sweep_joint store k n b1 b2 st
      → counted st' (set cs j c) ≡ counted_one store words j (counted st cs)
  unfolding counted_one count_one sweep_one
  counted-turn words j st cs first number motors first_body second-body c s =
      rw (c, s, first, number, motors, first_body, second-body, ← (count-by-number words j (rows_before store words j) (body1_at words j) (body2_at words j) st))

  module _ (words : List ℕ) where
    pub length-count_round : (n j : ℕ) (st : State) → length (count_round store words j n st) ≡ n
    unfolding count_round
    length-count_round zero j st = refl
    length-count_round (suc n) j st = ap suc (length-count_round n (j + 1) (sweep_one store words j st))

    count-from : (n q i : ℕ) (st : State) → i < n → get_or (count_round store words q n st) i 0 ≡ count_one store words (q + i) (each_joint (sweep_one store words) q i st)
    unfolding each_joint count_round
    count-from zero q i st h = absurd (not-suc-le-zero h)
    count-from (suc n) q zero st h = rw add-zero
    count-from (suc n) q (suc i) st h =
        let e : q + suc i ≡ q + 1 + i = omega arith in
        rw e (count-from n (q + 1) i (sweep_one store words q st) (le_of_suc-le-suc h))

    -- joint j's count in a round, by the state in which the round reaches it
    pub count_at : (n j : ℕ) (st : State) → j < n → get_or (count_round store words 0 n st) j 0 ≡ count_one store words j (sweep_round store words j st)
    unfolding sweep_round
    count_at n j st h = count-from n 0 j st h ∙ rw zero-add

    -- n joints from joint j on: the counts before theirs stay, and so do those past them
    round-from : (n j : ℕ) (st : State) (done rest : List ℕ) → length done ≡ j → n ≤ length rest
        → each_joint (counted_one store words) j n (counted st (done ++ rest)) ≡ counted (each_joint (sweep_one store words) j n st) (done ++ (count_round store words j n st ++ drop n rest))
    unfolding each_joint counted_one count_round
    round-from zero j st done rest e h = refl
    round-from (suc n) j st done [] e h = absurd (not-suc-le-zero h)
    round-from (suc n) j st done (c ∷ rest) e h =
        let x : ℕ = count_one store words j st in
        let one : length (done ++ (x ∷ [])) ≡ j + 1 = length-append done (x ∷ []) ∙ ap (λ n. n + 1) e in
        rw (set_at done c rest x j e, ← (append_snoc done x rest))
        (round-from n (j + 1) (sweep_one store words j st) (done ++ (x ∷ [])) rest one (le_of_suc-le-suc h)
        ∙ ap (λ cs. counted (each_joint (sweep_one store words) (j + 1) n (sweep_one store words j st)) cs) (append_snoc done x (count_round store words (j + 1) n (sweep_one store words j st) ++ drop n rest)))

    module _ (joints : ℕ) where
      round-counts : (st : State) (cs : List ℕ) → joints ≤ length cs
          → counted_round store words joints (counted st cs) ≡ counted (sweep_round store words joints st) (count_round store words 0 joints st ++ drop joints cs)
      unfolding counted_round sweep_round
      round-counts st cs h = round-from joints 0 st [] cs refl h

      rounds-counts : (n : ℕ) (st : State) (cs : List ℕ) → joints ≤ length cs
          → rounds (counted_round store words joints) (suc n) (counted st cs)
          ≡ counted (rounds (sweep_round store words joints) (suc n) st) (count_round store words 0 joints (rounds (sweep_round store words joints) n st) ++ drop joints cs)
      unfolding rounds
      rounds-counts zero st cs h = round-counts st cs h
      rounds-counts (suc n) st cs h =
          let now : List ℕ = count_round store words 0 joints st ++ drop joints cs in
          let long : joints ≤ length now = omega (arith, length-append (count_round store words 0 joints st) (drop joints cs), length-count_round joints 0 st) in
          let past : drop joints now ≡ drop joints cs = drop_at (count_round store words 0 joints st) (drop joints cs) joints (length-count_round joints 0 st) in
          rw (round-counts st cs h) (rounds-counts n (sweep_round store words joints st) now long ∙ rw past)

      no-rounds : (st : State) → rounds (counted_round store words joints) 0 (counted st (replicate 128 0)) ≡ counted (rounds (sweep_round store words joints) 0 st) (replicate 128 0)
      unfolding rounds
      no-rounds st = refl

      pub length-sweep_counts : (n : ℕ) (st : State) → length (sweep_counts store words joints n st) ≡ joints
      unfolding sweep_counts
      length-sweep_counts zero st = length-replicate joints 0
      length-sweep_counts (suc n) st = length-count_round joints 0 (rounds (sweep_round store words joints) n st)

      pub last-counts : (n : ℕ) (st : State) → joints ≤ 128
          → rounds (counted_round store words joints) n (counted st (replicate 128 0)) ≡ counted (rounds (sweep_round store words joints) n st) (filled 128 0 (sweep_counts store words joints n st))
      unfolding sweep_counts
      last-counts zero st h = no-rounds st ∙ ap (λ cs. counted (rounds (sweep_round store words joints) 0 st) cs) (all-zero joints 128 h)
      last-counts (suc n) st h =
          let last : List ℕ = count_round store words 0 joints (rounds (sweep_round store words joints) n st) in
          rounds-counts n st (replicate 128 0) (rw length-replicate h)
          ∙ ap (λ cs. counted (rounds (sweep_round store words joints) (suc n) st) cs) (over-blank 0 128 joints last (length-count_round joints 0 (rounds (sweep_round store words joints) n st)) h)
