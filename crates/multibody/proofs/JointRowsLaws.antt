-- The ids of a joint's rows: those of its masks where it is enabled, and none where it is not. As many rows are made as the joint has ids (`length-built_rows`), and last impulses count only where the
-- build reads them (`last-impulses`). A step meets the same bound from the same row and velocities (`sides-same`).
-- And a joint's rows in storage one turn of a loop at a time: what is left of the work at a turn is the turn's row and what is left at the next one, and at the end nothing is left.
use Rattle.std.specs.Prelude.{Option}
use Prim.Native.Nat.{ℕ, zero, suc, ◌+◌, ◌*◌, ◌-◌, ◌≤◌, ◌<◌}
use mathlib.Core.Path.{◌≡◌, refl, sym, ap, ◌∙◌}
use mathlib.Core.Bool.{Bool, true, false}
use mathlib.Core.List.{List, [], ◌∷◌, ◌++◌}
use native.Mathlib.Nat.{add_assoc, add-zero}
use native.Mathlib.Numerals.{add-one}
use native.Mathlib.Omega.{arith}
use lib.ListN.{length, get_or, set, take, drop, drop_of_length-le}
use lib.Seq.{drop-cons, get_or-take, length-take-le}
use lib.Ieee.{Float, nan}
use Rattle.floats.specs.Operators.{bits}
use Rattle.rows.specs.GenericJoint.{is_enabled}
use Rattle.rows.specs.RowIds.{no_masks, filled}
use Rattle.rows.specs.declared.integration_parameters.IntegrationParameters.{IntegrationParameters}
use Rattle.rows.specs.declared.generic_joint.Masks.{Masks}
use Rattle.rows.specs.declared.generic_joint.JointEnabled.{JointEnabled}
use Rattle.rows.specs.declared.joint_velocity_constraint.WritebackId.{WritebackId}
use Rattle.rows.proofs.Filled.{set-filled}
use Rattle.rows.proofs.RowIdsLaws.{no-ids}
use Rattle.multibody.specs.Model.{Model}
use Rattle.multibody.specs.Store.{Store, Stepped}
use Rattle.multibody.specs.System.{System}
use Rattle.multibody.specs.JointRows.{State, state, row_masks_at, joint_ids, row_count, put_rows, impulses_at, built_rows, build_joint, sweep_row, sweep_side, sweep_joint, warmstart_row, warmstart_joint, remove_bias_joint, write_back_ids}
use Rattle.multibody.specs.Refusals.{reads_rows}
use Rattle.multibody.proofs.Tests.{by_cases}
use Rattle.multibody.proofs.Laws.{SameJoint, Laws}

-- what is left at turn i of n
pub less : (n i : ℕ) → i < n → n - i ≡ suc (n - (i + 1))
less n i h = omega arith

pub none : (n i : ℕ) → n ≤ i → n - i ≡ 0
none n i h = omega arith

-- A turn of a loop that fills an array: one more at the end of a list that grows by f n at its place n.
pub fill-turn : {A : Type 0} (x : A) (l : ℕ → List A) (f : ℕ → A) → ((n : ℕ) → length (l n) ≡ n) → ((n : ℕ) → l (suc n) ≡ l n ++ (f n ∷ []))
    → (m i : ℕ) {out : List A} {y : A} → i < m → out ≡ filled m x (l i) → y ≡ f i → set out i y ≡ filled m x (l (i + 1))
fill-turn x l f len snoc m i {y = y} h e r =
    let stored : set (filled m x (l i)) (length (l i)) y ≡ filled m x (l i ++ (y ∷ [])) = set-filled x m (l i) y (omega (arith, len i)) in
    rw (e, add-one, snoc, ← r) (rw (len i) at stored)

module _ (store : Store) where
  open store use {most_rows, SolverPose, SolverVel, JointConstraint, ImpulseJoint, row_at, put_row, vel_at, put_vel, solver_pose_at, joint_at, masks_at, enabled_at, body1_at, body2_at, builder_update_of, impulse_of, step_of, remove_bias_of}

  -- ---- impulses read

  length-impulses_at : (s : List Float) (k n : ℕ) → length (impulses_at store s k n) ≡ n
  unfolding impulses_at
  length-impulses_at s k zero = refl
  length-impulses_at s k (suc n) = ap suc (length-impulses_at s (k + 1) n)

  impulses-snoc : (s : List Float) (k n : ℕ) → impulses_at store s k (suc n) ≡ impulses_at store s k n ++ (impulse_of (row_at s (k + n)) ∷ [])
  unfolding impulses_at
  impulses-snoc s k zero = rw add-zero
  impulses-snoc s k (suc n) =
      let e : k + suc n ≡ k + 1 + n = omega arith in
      rw e (ap (λ t. impulse_of (row_at s k) ∷ t) (impulses-snoc s (k + 1) n))

  pub no-impulses : (s : List Float) (k : ℕ) → impulses_at store s k 0 ≡ []
  unfolding impulses_at
  no-impulses s k = refl

  -- ---- rows stored

  -- the rows left at turn i, once the turn's row is stored
  pub put-turn : (s : List Float) (k i n : ℕ) (l : List JointConstraint) (d : JointConstraint) {s' : List Float} → i < n → n ≤ length l
      → s' ≡ put_row s (k + i) (get_or l i d) → put_rows store s' (k + (i + 1)) (drop (i + 1) (take n l)) ≡ put_rows store s (k + i) (drop i (take n l))
  unfolding put_rows
  put-turn s k i n l d h g e =
      rw (drop-cons (take n l) i d (omega (arith, length-take-le n l g)), get_or-take n l i d h, e, ← add_assoc k i 1, add-one i)

  pub put-done : (s : List Float) (k i n : ℕ) (l : List JointConstraint) → n ≤ length l → n ≤ i → put_rows store s k (drop i (take n l)) ≡ s
  unfolding put_rows
  put-done s k i n l g h = rw (drop_of_length-le (take n l) {i = i} (omega (arith, length-take-le n l g)))

  -- ---- rows made

  -- the masks that count, from what is read in turn
  module _ (words : List ℕ) (j : ℕ) {e : JointEnabled} {b : Bool} (i : e ≡ enabled_at words j) (t : b ≡ is_enabled e) where
    pub read-enabled : b ≡ true → is_enabled (enabled_at words j) ≡ true
    read-enabled on = rw (← i, ← t) on

    pub read-disabled : b ≡ false → is_enabled (enabled_at words j) ≡ false
    read-disabled off = rw (← i, ← t) off

    pub own-masks : {masks : Masks} → b ≡ true → masks ≡ masks_at words j → masks ≡ row_masks_at store words j
    unfolding row_masks_at
    own-masks {masks} on m = rw (read-enabled on) m

    pub no-masks : {masks : Masks} → b ≡ false → masks ≡ no_masks → masks ≡ row_masks_at store words j
    unfolding row_masks_at
    no-masks {masks} off m = rw (read-disabled off) m

  -- a joint's rows made anew, from what is read and stored in turn
  pub build_steps : (params : IntegrationParameters) (substep : ℕ) (warm : Option Float) (bodies : List Float) (words : List ℕ) (numbers : List Float) (j : ℕ)
      (rows : List Float) (first : ℕ) {n i1 i2 : ℕ} {body1 body2 : SolverPose} {joint : ImpulseJoint} {prevs : List Float} {made : List JointConstraint} {rows' : List Float}
      → is_enabled (enabled_at words j) ≡ true → n ≡ row_count store words j → prevs ≡ filled most_rows (bits 0) (impulses_at store rows first n) → joint ≡ joint_at words numbers j
      → i1 ≡ body1_at words j → body1 ≡ solver_pose_at bodies i1 → i2 ≡ body2_at words j → body2 ≡ solver_pose_at bodies i2
      → made ≡ builder_update_of params substep warm body1 body2 joint prevs → rows' ≡ put_rows store rows first made
      → rows' ≡ build_joint store params bodies words numbers j first warm substep rows
  unfolding build_joint built_rows
  build_steps params substep warm bodies words numbers j rows first on c p e i1 b1 i2 b2 m s = s ∙ rw (m, b1, i1, b2, i2, p, e, c, on)

  -- where it is not enabled, nothing is stored
  pub build-disabled : (params : IntegrationParameters) (substep : ℕ) (warm : Option Float) (bodies : List Float) (words : List ℕ) (numbers : List Float) (j first : ℕ)
      (rows : List Float) → is_enabled (enabled_at words j) ≡ false → rows ≡ build_joint store params bodies words numbers j first warm substep rows
  unfolding build_joint built_rows put_rows
  build-disabled params substep warm bodies words numbers j first rows off = rw off

  -- ---- rows at work

  -- a row's step, from what is read and stored in turn
  pub sweep-steps : (rows bodies : List Float) (k b1 b2 : ℕ) {row : JointConstraint} {v1 v2 : SolverVel} {t : Stepped JointConstraint SolverVel} {rows' bodies' bodies'' : List Float}
      → row ≡ row_at rows k → v1 ≡ vel_at bodies b1 → v2 ≡ vel_at bodies b2 → t ≡ step_of row v1 v2
      → rows' ≡ put_row rows k t.row → bodies' ≡ put_vel bodies b1 t.vel1 → bodies'' ≡ put_vel bodies' b2 t.vel2
      → state rows' bodies'' ≡ sweep_row store k b1 b2 (state rows bodies)
  unfolding sweep_row
  sweep-steps rows bodies k b1 b2 r u v t s b d = cc

  -- and which bound it met
  pub sweep-side : (rows bodies : List Float) (k b1 b2 : ℕ) {row : JointConstraint} {v1 v2 : SolverVel} {t : Stepped JointConstraint SolverVel}
      → row ≡ row_at rows k → v1 ≡ vel_at bodies b1 → v2 ≡ vel_at bodies b2 → t ≡ step_of row v1 v2 → t.side ≡ sweep_side store k b1 b2 (state rows bodies)
  unfolding sweep_side
  sweep-side rows bodies k b1 b2 r u v t = cc

  -- the rows left at turn i are row k + i and those left at turn i + 1
  pub sweep-turn : (n i k b1 b2 : ℕ) (st : State) → i < n → sweep_joint store (k + i) (n - i) b1 b2 st ≡ sweep_joint store (k + (i + 1)) (n - (i + 1)) b1 b2 (sweep_row store (k + i) b1 b2 st)
  unfolding sweep_joint
  sweep-turn n i k b1 b2 st h = rw (less n i h, ← add_assoc k i 1)

  -- no row is left once i is n
  pub sweep-done : (n i k b1 b2 : ℕ) (st : State) → n ≤ i → sweep_joint store (k + i) (n - i) b1 b2 st ≡ st
  unfolding sweep_joint
  sweep-done n i k b1 b2 st h = rw (none n i h)

  pub warmstart-turn : (n i k b1 b2 : ℕ) (rows bodies : List Float) {bodies' : List Float} → i < n → bodies' ≡ warmstart_row store rows (k + i) b1 b2 bodies
      → warmstart_joint store rows (k + (i + 1)) (n - (i + 1)) b1 b2 bodies' ≡ warmstart_joint store rows (k + i) (n - i) b1 b2 bodies
  unfolding warmstart_joint
  warmstart-turn n i k b1 b2 rows bodies h e = rw (less n i h, e, ← add_assoc k i 1)

  pub warmstart-done : (rows : List Float) (n i k b1 b2 : ℕ) (bodies : List Float) → n ≤ i → warmstart_joint store rows (k + i) (n - i) b1 b2 bodies ≡ bodies
  unfolding warmstart_joint
  warmstart-done rows n i k b1 b2 bodies h = rw (none n i h)

  pub bias-turn : (n i k : ℕ) (rows : List Float) → i < n
      → remove_bias_joint store (k + i) (n - i) rows ≡ remove_bias_joint store (k + (i + 1)) (n - (i + 1)) (put_row rows (k + i) (remove_bias_of (row_at rows (k + i))))
  unfolding remove_bias_joint
  bias-turn n i k rows h = rw (less n i h, ← add_assoc k i 1)

  pub bias-done : (n i k : ℕ) (rows : List Float) → n ≤ i → remove_bias_joint store (k + i) (n - i) rows ≡ rows
  unfolding remove_bias_joint
  bias-done n i k rows h = rw (none n i h)

  -- ---- impulses written back

  pub back_done : (rows : List Float) (words : List ℕ) (k j i : ℕ) (numbers : List Float) {n : ℕ} → n ≡ row_count store words j → n ≤ i
      → write_back_ids store rows k j (drop i (joint_ids store words j)) numbers ≡ numbers
  unfolding write_back_ids row_count
  back_done rows words k j i numbers e h = rw (drop_of_length-le (joint_ids store words j) {i = i} (omega (arith, e)))

module _ {sys : System} (laws : Laws sys) where
  open sys use {store}
  open store use {most_rows, SolverPose, ImpulseJoint, row_width, row_at, vel_at, solver_pose_at, joint_at, masks_at, enabled_at, body1_at, body2_at, builder_update_of, put_vel, warmstart_of, put_seed, impulse_of}

  -- a joint that is enabled has the rows that its own masks give it
  pub masks-enabled : (words : List ℕ) (j : ℕ) → is_enabled (enabled_at words j) ≡ true → row_masks_at store words j ≡ masks_at words j
  unfolding row_masks_at
  masks-enabled words j on = rw on

  -- and one that is not has none
  pub ids-disabled : (words : List ℕ) (j : ℕ) → is_enabled (enabled_at words j) ≡ false → joint_ids store words j ≡ []
  unfolding joint_ids row_masks_at
  ids-disabled words j off = rw off (no-ids store.linear store.angular)

  pub count-disabled : (words : List ℕ) (j : ℕ) → is_enabled (enabled_at words j) ≡ false → row_count store words j ≡ 0
  unfolding row_count
  count-disabled words j off = rw (ids-disabled words j off)

  -- joints of equal contents have the same ids
  pub same-ids : {named : WritebackId → Type 0} (m m' : Model) (j : ℕ) → SameJoint store named m.words m.numbers m'.words m'.numbers j
      → joint_ids store m.words j ≡ joint_ids store m'.words j
  unfolding joint_ids row_masks_at
  same-ids m m' j s = rw (laws.same-masks m.words m'.words m.numbers m'.numbers j s, laws.same-enabled m.words m'.words m.numbers m'.numbers j s)

  -- as many rows are made as the joint has ids
  pub length-built_rows : (params : IntegrationParameters) (substep : ℕ) (warm : Option Float) (bodies : List Float) (words : List ℕ) (numbers : List Float) (j : ℕ) (last : List Float)
      → length (built_rows store params bodies words numbers j warm substep last) ≡ row_count store words j
  unfolding built_rows row_count joint_ids
  length-built_rows params substep warm bodies words numbers j last =
      by_cases (is_enabled (enabled_at words j))
      (λ on. rw (on, masks-enabled words j on) (laws.length-update params substep warm (solver_pose_at bodies (body1_at words j)) (solver_pose_at bodies (body2_at words j)) words numbers j last))
      (λ off. rw (off, ids-disabled words j off))

  -- and at most the most
  pub few-rows : (words : List ℕ) (j : ℕ) {n : ℕ} → n ≡ row_count store words j → n ≤ most_rows
  unfolding row_count joint_ids
  few-rows words j e =
      rw e (by_cases (is_enabled (enabled_at words j)) (λ on. rw (masks-enabled words j on) (laws.few-ids words j)) (λ off. rw (ids-disabled words j off) (omega arith)))

  -- the rows of an enabled joint
  pub count-built : (params : IntegrationParameters) (substep : ℕ) (warm : Option Float) (body1 body2 : SolverPose) (words : List ℕ) (numbers : List Float) (j : ℕ)
      {joint : ImpulseJoint} (prevs : List Float) → is_enabled (enabled_at words j) ≡ true → joint ≡ joint_at words numbers j → length (builder_update_of params substep warm body1 body2 joint prevs) ≡ row_count store words j
  unfolding row_count joint_ids
  count-built params substep warm body1 body2 words numbers j prevs on e =
      rw (e, masks-enabled words j on) (laws.length-update params substep warm body1 body2 words numbers j prevs)

  -- one more impulse read
  pub impulse-turn : (s : List Float) (k i : ℕ) {out : List Float} → i < most_rows → out ≡ filled most_rows (bits 0) (impulses_at store s k i)
      → set out i (get_or s ((k + i) * row_width) nan) ≡ filled most_rows (bits 0) (impulses_at store s k (i + 1))
  impulse-turn s k i h e =
      fill-turn (bits 0) (impulses_at store s k) (λ n. impulse_of (row_at s (k + n))) (length-impulses_at store s k) (impulses-snoc store s k) most_rows i h e (sym (laws.impulse-first s (k + i)))

  -- last impulses count only where the build reads them
  pub last-impulses : (params : IntegrationParameters) (b1 b2 : SolverPose) (a : ImpulseJoint) (warm : Option Float) (substep : ℕ) (ps qs : List Float) → (reads_rows warm substep ≡ true → ps ≡ qs)
      → builder_update_of params substep warm b1 b2 a ps ≡ builder_update_of params substep warm b1 b2 a qs
  last-impulses params b1 b2 a warm substep ps qs h =
      by_cases (reads_rows warm substep) (λ r. rw (h r)) (λ r. laws.reads-no-row params substep warm b1 b2 a ps qs r)

  -- a row's warm start gives its two bodies their velocities, whatever its impulse is
  pub warm-each : (rows : List Float) (k b1 b2 : ℕ) (bodies : List Float) → let t = warmstart_of (row_at rows k) (vel_at bodies b1) (vel_at bodies b2) in
      warmstart_row store rows k b1 b2 bodies ≡ put_vel (put_vel bodies b1 t.vel1) b2 t.vel2
  unfolding warmstart_row
  warm-each rows k b1 b2 bodies = refl

  -- of a write-back's rows each in turn: its impulse is stored, whatever it is
  pub back-each : (rows : List Float) (k j : ℕ) (id : WritebackId) (ids : List WritebackId) (numbers : List Float)
      → write_back_ids store rows k j (id ∷ ids) numbers ≡ write_back_ids store rows (k + 1) j ids (put_seed numbers j id (impulse_of (row_at rows k)))
  unfolding write_back_ids
  back-each rows k j id ids numbers = refl

  -- the ids left at turn i, once the turn's impulse is stored
  pub back-turn : (rows : List Float) (words : List ℕ) (k j i : ℕ) (numbers : List Float) (d : WritebackId) {id : WritebackId} {numbers' : List Float}
      → i < row_count store words j → id ≡ get_or (joint_ids store words j) i d → numbers' ≡ put_seed numbers j id (get_or rows ((k + i) * row_width) nan)
      → write_back_ids store rows (k + (i + 1)) j (drop (i + 1) (joint_ids store words j)) numbers' ≡ write_back_ids store rows (k + i) j (drop i (joint_ids store words j)) numbers
  unfolding write_back_ids row_count
  back-turn rows words k j i numbers d h e g =
      rw (drop-cons (joint_ids store words j) i d h, g, e, ← (laws.impulse-first rows (k + i)), ← add_assoc k i 1, add-one i)

  pub sides-same : (st st' : State) (k k' b1 b2 : ℕ) → row_at st.rows k ≡ row_at st'.rows k' → vel_at st.bodies b1 ≡ vel_at st'.bodies b1
      → vel_at st.bodies b2 ≡ vel_at st'.bodies b2 → sweep_side store k b1 b2 st ≡ sweep_side store k' b1 b2 st'
  unfolding sweep_side
  sides-same st st' k k' b1 b2 r u v = cc
