-- The rows that the builder's `update` makes: row by row the id's row with the impulse that it starts from, slot by slot. A turn of its loop overwrites one
-- blank row (`start-turn`); the array at the end (`start-end`), with its groups orthogonalised, is that of the joint's rows (`started-array`). For any kind of
-- row, any number of slots and any length of the array; then for a planar joint (`started-rows`). Assumes nothing.
use Rattle.std.specs.Prelude.{Option}
use Prim.Native.Nat.{ℕ, zero, suc, ◌+◌, ◌-◌, ◌^◌, ◌≤◌, ◌<◌}
use native.Mathlib.Numerals.{add-one}
use native.Mathlib.Omega.{arith}
use mathlib.Core.Path.{◌≡◌, refl, ap, sym, ◌∙◌}
use mathlib.Core.Bool.{cond}
use mathlib.Core.List.{List, [], ◌∷◌, ◌++◌, map, map-append}
use lib.Bits.{bit_and}
use lib.Count.{count_trailing_zeros}
use lib.Dec.{ltb}
use lib.ListN.{length, get_or, set, take, drop, replicate, length-map, length-append, length-drop, length-set, length-replicate, get_or-map}
use lib.Seq.{take_all, drop-cons}
use lib.Ieee.{Float}
use Rattle.rows.specs.declared.integration_parameters.IntegrationParameters.{IntegrationParameters}
use Rattle.rows.specs.declared.joint_constraint_builder.SolverPose.{SolverPose}
use Rattle.rows.specs.declared.joint_constraint_builder.ImpulseJoint.{ImpulseJoint}
use Rattle.rows.specs.declared.joint_velocity_constraint.JointConstraint.{JointConstraint}
use Rattle.rows.specs.declared.joint_velocity_constraint.RowContext.{RowContext}
use Rattle.rows.specs.declared.joint_velocity_constraint.Rows.{Rows}
use Rattle.rows.specs.declared.joint_velocity_constraint.WritebackId.{WritebackId}
use Rattle.rows.specs.RowIds.{filled, first_coupled, group_one, group_two, row_ids}
use Rattle.rows.specs.RowSlots.{slot_id, slot_bits}
use Rattle.rows.specs.Groups as Groups
use Rattle.rows.specs.Groups.{Group}
use Rattle.rows.specs.Warmed as Warmed
use Rattle.rows.specs.Row.{with_impulse}
use Rattle.rows.specs.Finalize.{im_sum_of, row_dot_of, head_of, is_lock, less_of, row_group, finalize_of, finalize_groups}
use Rattle.rows.specs.Update.{context_of, row_of, update_of, blank_row, rows_array}
use Rattle.rows.specs.Builder.{joint_context_of, seed_of, warmed_all, builder_update_of}
use Rattle.rows.proofs.Filled.{over-blank, overwrite-turn}
use Rattle.rows.proofs.GroupLaws.{length-finalize_of, length-groups, finalize-filled}
use Rattle.rows.proofs.RowIdsCount.{at-most-six}
use Rattle.rows.proofs.RowSlotsLaws.{slots_from, lowest-slot, cleared-less, slot_bits-lt, slot-ids}
use Rattle.rows.proofs.WarmedFinalize.{ImpulseUnread, length-warmed_all, get_or-warmed_all, finalize-warmed, warmed-append}

-- ---- the loop

-- an id, and those after it, in a list from place k on
pub next-id : {A : Type 0} (is : List A) (k : ℕ) (i : A) (l : List A) → i ∷ l ≡ drop k is → (k < length is) × (get_or is k i ≡ i) × (drop (k + 1) is ≡ l)
next-id is k i l e =
    let at : k < length is = omega (arith, ap length e, length-drop k is) in
    let split : i ∷ l ≡ get_or is k i ∷ drop (suc k) is = e ∙ drop-cons is k i at in
    (at, sym (ap (λ t. get_or t 0 i) split), rw add-one (sym (ap (drop 1) split)))

-- no slot is left
pub no-slots : (slot : ℕ → WritebackId) (n i : ℕ) → length (map slot (slots_from n i 0)) ≡ 0
no-slots slot zero i = refl
no-slots slot (suc n) i = no-slots slot n (suc i)

-- what the loop is about: rows of a kind, each made of its id, in an array of `most` that was blank; the ids are those of a joint's slots
pub record Build (Row : Type 0) : Type 0 where
  pub with_impulse : Row → Float → Row
  pub blank : Row
  pub row : WritebackId → Row
  pub warm : Option Float
  pub substep : ℕ
  pub seed : WritebackId → Float
  pub prevs : List Float
  pub most : ℕ
  pub slots : ℕ
  pub slot : ℕ → WritebackId
  pub ids : List WritebackId

module _ {Row : Type 0} (b : Build Row) where
  -- the rows of the ids, each with the impulse that it starts from, before their groups are orthogonalised
  abbrev pub started : List Row
  started = Warmed.warmed_all b.with_impulse b.warm b.substep b.seed b.ids b.prevs (map b.row b.ids)

  abbrev pub blanks : List Row
  blanks = replicate b.most b.blank

  -- the ids of the slots that are left
  abbrev pub ids_left : ℕ → List WritebackId
  ids_left left = map b.slot (slots_from b.slots 0 left)

-- what the loop keeps at row k: the rows of the ids before k are made and have the impulses that they start from, and the slots that are left are those of
-- the ids from k on
pub record Starting {Row : Type 0} (b : Build Row) (rows : List Row) (left k : ℕ) : Type 0 where
  pub reached : k ≤ length b.ids
  pub few : length b.ids ≤ b.most
  pub narrow : b.slots ≤ 32
  pub slots-left : left < 2 ^ b.slots
  pub ids-left : ids_left b left ≡ drop k b.ids
  pub all-prevs : length b.prevs ≡ b.most
  pub all-rows : length rows ≡ b.most
  pub so_far : rows ≡ take k (started b) ++ drop k (blanks b)

module _ {Row : Type 0} {b : Build Row} {rows : List Row} {left k : ℕ} (s : Starting b rows left k) where
  length-started : length (started b) ≡ length b.ids
  length-started = length-warmed_all b.with_impulse b.warm b.substep b.seed b.ids b.prevs (map b.row b.ids) (length-map b.ids b.row)

  abbrev lowest : WritebackId
  lowest = b.slot (count_trailing_zeros 32 left)

  -- the id of the lowest slot is the next one
  next : 0 < left → (k < length b.ids) × (get_or b.ids k lowest ≡ lowest) × (drop (k + 1) b.ids ≡ ids_left b (bit_and left (left - 1)))
  next g = next-id b.ids k _ _ (sym (ap (map b.slot) (lowest-slot b.slots left s.narrow g s.slots-left)) ∙ s.ids-left)

  pub room : 0 < left → k < b.most
  room g = omega (arith, (next g).0, s.few)

  -- a turn: p stands for what the code would read past an array's end
  pub start-turn : {y : Row} (p : Float) → 0 < left
      → y ≡ Warmed.warmed_of b.with_impulse b.warm b.substep (b.seed lowest) (get_or b.prevs k p) (b.row lowest)
      → Starting b (set rows k y) (bit_and left (left - 1)) (k + 1)
  start-turn {y} p g v =
      let there = next g in
      let at : k < length (started b) = omega (arith, length-started, there.0) in
      let inside : k < length (blanks b) = omega (arith, s.few, there.0, length-replicate b.most b.blank) in
      let read-row : get_or (map b.row b.ids) k (b.row lowest) ≡ b.row (get_or b.ids k lowest) = get_or-map b.row b.ids k lowest in
      let read : get_or (started b) k b.blank
      ≡ Warmed.warmed_of b.with_impulse b.warm b.substep (b.seed (get_or b.ids k lowest)) (get_or b.prevs k p) (get_or (map b.row b.ids) k (b.row lowest)) =
      get_or-warmed_all b.with_impulse b.warm b.substep b.seed b.ids b.prevs (map b.row b.ids) k lowest p (b.row lowest) b.blank
      there.0 (omega (arith, s.few, s.all-prevs, there.0)) (omega (arith, length-map b.ids b.row, there.0)) in
      record {
        reached = omega (arith, there.0);
        few = s.few;
        narrow = s.narrow;
        slots-left = omega (arith, s.slots-left, cleared-less left g);
        ids-left = sym there.2;
        all-prevs = s.all-prevs;
        all-rows = length-set rows k y ∙ s.all-rows;
        so_far = overwrite-turn (started b) (blanks b) k at inside b.blank s.so_far (v ∙ sym (read ∙ rw (read-row, there.1)));
      }

  -- after the last turn
  pub all_made : left ≤ 0 → k ≡ length b.ids
  all_made h =
      let z : left ≡ 0 = omega arith in
      omega (arith, s.reached, ap length (rw z at s.ids-left), no-slots b.slot b.slots 0, length-drop k b.ids)

  pub start-end : left ≤ 0 → rows ≡ filled b.most b.blank (started b)
  start-end h =
      s.so_far ∙ rw (all_made h) (ap (λ t. t ++ drop (length b.ids) (blanks b)) (take_all (length b.ids) (started b) (omega (arith, length-started))))
      ∙ over-blank b.blank b.most (length b.ids) (started b) length-started s.few

-- ---- the array at its end

module _ (group : Group) (with_impulse : group.Row → Float → group.Row) (unread : ImpulseUnread group with_impulse) (warm : Option Float) (substep : ℕ) (seed : WritebackId → Float)
    (row : WritebackId → group.Row) (blank : group.Row) (most : ℕ) (prevs : List Float) (l r : List WritebackId) (there : length prevs ≡ most) (h : length (l ++ r) ≤ most) where
  open group use {Row}

  abbrev all : List WritebackId → List Float → List Row → List Row
  all = Warmed.warmed_all with_impulse warm substep seed

  abbrev made : List WritebackId → List Row
  made is = map row is

  abbrev later : List Float
  later = drop (length l) prevs

  few-one : length l ≤ length prevs
  few-one = omega (arith, length-append l r, there)

  one : length (all l prevs (made l)) ≡ length l
  one = length-warmed_all with_impulse warm substep seed l prevs (made l) (length-map l row)

  two : length (all r later (made r)) ≡ length r
  two = length-warmed_all with_impulse warm substep seed r later (made r) (length-map r row)

  -- the two groups, orthogonalised
  abbrev both : List Row
  both = Groups.finalize_of group (made l) ++ Groups.finalize_of group (made r)

  -- the started rows of two groups, orthogonalised in their array
  started-groups : Groups.finalize_groups group (length l) (length (l ++ r)) (filled most blank (all (l ++ r) prevs (made (l ++ r)))) ≡ filled most blank (all (l ++ r) prevs both)
  started-groups =
      let split : all (l ++ r) prevs (made (l ++ r)) ≡ all l prevs (made l) ++ all r later (made r) =
      ap (λ t. all (l ++ r) prevs t) (map-append row l r) ∙ warmed-append with_impulse warm substep seed l r prevs (made l) (made r) (length-map l row) few-one in
      let join : all (l ++ r) prevs both ≡ all l prevs (Groups.finalize_of group (made l)) ++ all r later (Groups.finalize_of group (made r)) =
      warmed-append with_impulse warm substep seed l r prevs (Groups.finalize_of group (made l)) (Groups.finalize_of group (made r)) (length-finalize_of group (made l) ∙ length-map l row) few-one in
      let count : length (all l prevs (made l) ++ all r later (made r)) ≡ length (l ++ r) =
      omega (arith, length-append (all l prevs (made l)) (all r later (made r)), one, two, length-append l r) in
      ap (λ t. Groups.finalize_groups group (length l) (length (l ++ r)) (filled most blank t)) split
      ∙ finalize-filled group blank most (length l) (length (l ++ r)) (all l prevs (made l)) (all r later (made r)) one count h
      ∙ rw (
        finalize-warmed group with_impulse unread warm substep seed l prevs (made l) (length-map l row),
        finalize-warmed group with_impulse unread warm substep seed r later (made r) (length-map r row),
        join,
      )

  -- what the code returns: the array of the joint's rows, and their number
  pub started-array : {first len : ℕ} {rows : List Row} → first ≡ length l → len ≡ length (l ++ r)
      → rows ≡ Groups.finalize_groups group first len (filled most blank (all (l ++ r) prevs (made (l ++ r))))
      → (rows ≡ filled most blank (all (l ++ r) prevs both)) × (len ≡ length (all (l ++ r) prevs both))
  started-array ef el g =
      (g ∙ rw (ef, el) started-groups, el ∙ sym (length-warmed_all with_impulse warm substep seed (l ++ r) prevs both (length-groups group row l r)))

-- ---- a planar joint

unread : ImpulseUnread row_group with_impulse
unfolding im_sum_of head_of row_dot_of is_lock less_of Groups.reduce_of with_impulse
unread = record { sum = λ c x. refl; head = λ im c x. refl; lock = λ c x. refl; by = λ im c x. refl; pair = λ im d c x. refl }

-- the loop of the builder's `update`; f is F
abbrev pub building : Option Float → ℕ → ImpulseJoint → RowContext → List Float → ℕ → Build JointConstraint
building warm substep joint cx prevs f = record {
  with_impulse = with_impulse;
  blank = blank_row;
  row = row_of cx;
  warm = warm;
  substep = substep;
  seed = seed_of joint;
  prevs = prevs;
  most = 6;
  slots = 11;
  slot = λ s. slot_id s f;
  ids = row_ids 2 1 joint.«data».masks;
}

-- the joint that the context holds
pub context-joint : (params : IntegrationParameters) (body1 body2 : SolverPose) (joint : ImpulseJoint) → (joint_context_of params body1 body2 joint).joint ≡ joint.«data»
unfolding joint_context_of context_of
context-joint params body1 body2 joint = refl

-- before the first turn
pub start-start : (warm : Option Float) (substep : ℕ) (joint : ImpulseJoint) (cx : RowContext) (prevs : List Float) (f : ℕ) → length prevs ≡ 6
    → first_coupled 2 joint.«data».masks ≡ cond (ltb f 2) (f ∷ []) []
    → Starting (building warm substep joint cx prevs f) (replicate 6 blank_row) (slot_bits joint.«data».masks) 0
start-start warm substep joint cx prevs f six e = record {
  reached = omega arith;
  few = at-most-six joint.«data».masks;
  narrow = omega arith;
  slots-left = slot_bits-lt joint.«data».masks;
  ids-left = slot-ids joint.«data».masks f e;
  all-prevs = six;
  all-rows = refl;
  so_far = refl;
}

-- what the code returns
pub started-rows : (params : IntegrationParameters) (substep : ℕ) (warm : Option Float) (body1 body2 : SolverPose) (joint : ImpulseJoint) (prevs : List Float)
    {first len : ℕ} {cx : RowContext} {rows : List JointConstraint} → length prevs ≡ 6
    → first ≡ length (group_one 2 1 joint.«data».masks) → len ≡ length (row_ids 2 1 joint.«data».masks) → cx ≡ joint_context_of params body1 body2 joint
    → rows ≡ finalize_groups first len (filled 6 blank_row (warmed_all warm substep joint (row_ids 2 1 joint.«data».masks) prevs (map (row_of cx) (row_ids 2 1 joint.«data».masks))))
    → ◌≡◌ {A = Rows} (record { rows = rows; len = len }) (rows_array (builder_update_of params substep warm body1 body2 joint prevs))
unfolding row_ids rows_array builder_update_of update_of
started-rows params substep warm body1 body2 joint prevs {first} {len} {cx} {rows} six ef el x g =
    let l : List WritebackId = group_one 2 1 joint.«data».masks in
    let r : List WritebackId = group_two 2 1 joint.«data».masks in
    let cx' : RowContext = joint_context_of params body1 body2 joint in
    let updated : update_of cx' ≡ finalize_of (map (row_of cx') l) ++ finalize_of (map (row_of cx') r) = rw context-joint in
    let all : List JointConstraint → List JointConstraint = warmed_all warm substep joint (l ++ r) prevs in
    let made = started-array row_group with_impulse unread warm substep (seed_of joint) (row_of cx') blank_row 6 prevs l r six (at-most-six joint.«data».masks) ef el (g ∙ rw x) in
    let whole : rows ≡ filled 6 blank_row (all (update_of cx')) = made.0 ∙ ap (λ t. filled 6 blank_row (all t)) (sym updated) in
    let count : len ≡ length (all (update_of cx')) = made.1 ∙ ap (λ t. length (all t)) (sym updated) in
    λ i. record { rows = whole i; len = count i }
