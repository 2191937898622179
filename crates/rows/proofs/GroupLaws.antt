-- Orthogonalising a group of rows of any kind. First the outer loop of `finalize_constraints`: a turn at a lock, with the inverse that is taken once for its
-- row; the start, where the whole group is left to do; a group of no rows. Then what comes out: as many rows as went in, the first one's head step, no row that
-- depends on the rows after it (`take-finalize_of`), and of each row what head step and reducing keep. Then two groups in one array that is filled up
-- (`finalize-filled`, `made_array`). Assumes nothing.
use mathlib.Core.Path.{◌≡◌, refl, ap, sym, ◌∙◌}
use Prim.Native.Nat.{ℕ, zero, suc, ◌+◌, ◌-◌, ◌<◌, ◌≤◌}
use native.Mathlib.Nat.{not-suc-le-zero, le_refl}
use native.Mathlib.Omega.{arith}
use mathlib.Core.Bool.{true}
use mathlib.Core.List.{List, [], ◌∷◌, ◌++◌, map, append-nil, append_assoc, map-append, map-map}
use lib.ListN.{length, get_or, set, take, drop, replicate, length-append, length-map, drop_of_length-le}
use lib.Seq.{take_all, take_at, drop_at, drop-drop, length-take-le}
use borrow.Rule.Slice.PartMut.{put_mid}
use lib.Ieee.{Float}
use Rattle.rows.specs.declared.joint_velocity_constraint.WritebackId.{WritebackId}
use Rattle.rows.specs.declared.joint_velocity_constraint.WritebackId.TheVariants.{Dof}
use Rattle.rows.specs.declared.row_ids.RowId.{RowId}
use Rattle.rows.specs.RowIds.{filled, row_id, ids_filled}
use Rattle.rows.specs.Groups.{Group, orthogonalise, reduce_of, finalize_of, finalize_groups}
use Rattle.rows.proofs.Filled.{take-filled, drop-filled, filled-split, first_part, second-part}
use Rattle.rows.proofs.Orthogonalise.{between, rest, lock-turn}
use Rattle.rows.proofs.OrthogonaliseLaws.{Every, length-orthogonalise, first-row, take-orthogonalise, kept-orthogonalise, every-orthogonalise}

module _ (group : Group) where
  open group use {Row, Masses, im_sum_of, head_of, is_lock, inv_dot_of, pair_of}

  -- ---- the loop

  -- what is left to do of the group's rows from j to before n
  abbrev pub rest_of : Masses → ℕ → ℕ → List Row → List Row
  rest_of imsum j n cs = rest (head_of imsum) is_lock (reduce_of group imsum) j n cs

  -- a turn at a lock
  pub lock-row : (imsum : Masses) (j n : ℕ) (cs rs : List Row) (d p : Row) (inverse : Float)
      → j < n → n ≤ length cs → p ≡ head_of imsum (get_or cs j d) → is_lock p ≡ true → inverse ≡ inv_dot_of imsum p
      → rs ≡ between (map (pair_of imsum inverse p)) (j + 1) n (set cs j p)
      → rest_of imsum (j + 1) n rs ≡ rest_of imsum j n cs
  unfolding reduce_of
  lock-row imsum j n cs rs d p inverse h l e t v w = rw (w, v) (lock-turn (head_of imsum) is_lock (reduce_of group imsum) j n cs d p h l e t)

  -- all of a list
  all_of : (f : List Row → List Row) (cs : List Row) → between f 0 (length cs) cs ≡ f cs
  unfolding between
  all_of f cs = rw (take_all (length cs) cs (le_refl (length cs)), drop_of_length-le cs (le_refl (length cs)), append-nil (f cs))

  -- before the first turn, the whole group is left to do
  pub start : (cs : List Row) (d : Row) → 0 < length cs → rest_of (im_sum_of (get_or cs 0 d)) 0 (length cs) cs ≡ finalize_of group cs
  unfolding finalize_of
  start [] d l = absurd (not-suc-le-zero l)
  start (c ∷ cs) d l = all_of (orthogonalise (head_of (im_sum_of c)) is_lock (reduce_of group (im_sum_of c))) (c ∷ cs)

  -- a group of no rows
  pub none : (cs : List Row) → length cs ≤ 0 → cs ≡ finalize_of group cs
  unfolding finalize_of
  none [] l = refl
  none (c ∷ cs) l = absurd (not-suc-le-zero l)

  -- ---- what comes out

  pub length-finalize_of : (cs : List Row) → length (finalize_of group cs) ≡ length cs
  unfolding finalize_of
  length-finalize_of [] = refl
  length-finalize_of (c ∷ cs) = length-orthogonalise (head_of (im_sum_of c)) is_lock (reduce_of group (im_sum_of c)) (c ∷ cs)

  pub first-of-group : (c : Row) (cs : List Row) → take 1 (finalize_of group (c ∷ cs)) ≡ head_of (im_sum_of c) c ∷ []
  unfolding finalize_of
  first-of-group c cs = first-row (head_of (im_sum_of c)) is_lock (reduce_of group (im_sum_of c)) c cs

  pub take-finalize_of : (k : ℕ) (cs : List Row) → take k (finalize_of group cs) ≡ finalize_of group (take k cs)
  unfolding finalize_of
  take-finalize_of zero cs = refl
  take-finalize_of (suc k) [] = refl
  take-finalize_of (suc k) (c ∷ cs) = take-orthogonalise (head_of (im_sum_of c)) is_lock (reduce_of group (im_sum_of c)) (suc k) (c ∷ cs)

  pub kept-finalize_of : {B : Type 0} (g : Row → B) → ((imsum : Masses) (c : Row) → g (head_of imsum c) ≡ g c) → ((imsum : Masses) (p c : Row) → g (reduce_of group imsum p c) ≡ g c)
      → (cs : List Row) → map g (finalize_of group cs) ≡ map g cs
  unfolding finalize_of
  kept-finalize_of g heads reduces [] = refl
  kept-finalize_of g heads reduces (c ∷ cs) =
      kept-orthogonalise g (head_of (im_sum_of c)) is_lock (reduce_of group (im_sum_of c)) (heads (im_sum_of c)) (reduces (im_sum_of c)) (c ∷ cs)

  pub every-finalize_of : (P : Row → Type 0) → ((imsum : Masses) (c : Row) → P c → P (head_of imsum c)) → ((imsum : Masses) (p c : Row) → P c → P (reduce_of group imsum p c))
      → (cs : List Row) → Every P cs → Every P (finalize_of group cs)
  unfolding finalize_of
  every-finalize_of P heads reduces [] e = tt
  every-finalize_of P heads reduces (c ∷ cs) e =
      every-orthogonalise P (head_of (im_sum_of c)) is_lock (reduce_of group (im_sum_of c)) (heads (im_sum_of c)) (reduces (im_sum_of c)) (c ∷ cs) e

  -- ---- two groups

  -- Two parts of one array in turn: `one` is what the first n rows have become, `two` what the rows after them, up to before len, have.
  pub two_groups : (n len : ℕ) (cs one two : List Row) → n ≤ len → len ≤ length cs → one ≡ finalize_of group (take n cs)
      → two ≡ finalize_of group (take (len - n) (drop n (one ++ drop n cs))) → put_mid n (len - n) (one ++ drop n cs) two ≡ finalize_groups group n len cs
  unfolding finalize_groups
  two_groups n len cs one two h l e f =
      let long : length one ≡ n = ap length e ∙ length-finalize_of (take n cs) ∙ length-take-le n cs (omega arith) in
      let before : take n (one ++ drop n cs) ≡ one = take_at one (drop n cs) n long in
      let after : drop n (one ++ drop n cs) ≡ drop n cs = drop_at one (drop n cs) n long in
      let two_is : two ≡ finalize_of group (take (len - n) (drop n cs)) = rw after at f in
      let same : n + (len - n) ≡ len = omega arith in
      rw (before, after, two_is, e, drop-drop, same)

  -- the rows that f makes of two lists
  pub length-groups : {A : Type 0} (f : A → Row) (l r : List A) → length (finalize_of group (map f l) ++ finalize_of group (map f r)) ≡ length (l ++ r)
  length-groups f l r =
      omega (
        arith,
        length-append (finalize_of group (map f l)) (finalize_of group (map f r)),
        length-finalize_of (map f l),
        length-finalize_of (map f r),
        length-map l f,
        length-map r f,
        length-append l r,
      )

  -- each orthogonalised in their array
  pub finalize-filled : (blank : Row) (m n k : ℕ) (cs ds : List Row) → length cs ≡ n → length (cs ++ ds) ≡ k → k ≤ m
      → finalize_groups group n k (filled m blank (cs ++ ds)) ≡ filled m blank (finalize_of group cs ++ finalize_of group ds)
  unfolding finalize_groups
  finalize-filled blank m n k cs ds e f h =
      let fit : length (cs ++ ds) ≤ m = omega (arith, f) in
      let after_one : length ds ≡ k - n = omega (arith, length-append cs ds, e, f) in
      let one : take n (filled m blank (cs ++ ds)) ≡ cs = first_part blank m n cs ds e fit in
      let two : take (k - n) (drop n (filled m blank (cs ++ ds))) ≡ ds = second-part blank m n (k - n) cs ds e after_one fit in
      let after : drop k (filled m blank (cs ++ ds)) ≡ replicate (m - k) blank = drop-filled blank m k (cs ++ ds) f h in
      let count : length (finalize_of group cs ++ finalize_of group ds) ≡ k =
      omega (arith, length-append (finalize_of group cs) (finalize_of group ds), length-finalize_of cs, length-finalize_of ds, length-append cs ds, f) in
      let room : length (finalize_of group cs ++ finalize_of group ds) ≤ m = omega (arith, count) in
      rw (one, two, after, filled-split blank m (finalize_of group cs ++ finalize_of group ds) room, count, append_assoc)

  -- the rows that f makes of two lists, in an array
  made-groups : {A : Type 0} (blank : Row) (f : A → Row) (m : ℕ) (l r : List A) → length (l ++ r) ≤ m
      → finalize_groups group (length l) (length (l ++ r)) (filled m blank (map f (l ++ r))) ≡ filled m blank (finalize_of group (map f l) ++ finalize_of group (map f r))
  made-groups blank f m l r h =
      let count : length (map f l ++ map f r) ≡ length (l ++ r) = omega (arith, length-append (map f l) (map f r), length-map l f, length-map r f, length-append l r) in
      ap (λ t. finalize_groups group (length l) (length (l ++ r)) (filled m blank t)) (map-append f l r)
      ∙ finalize-filled blank m (length l) (length (l ++ r)) (map f l) (map f r) (length-map l f) count h

  -- What `update` puts together: the rows of an array of ids, of which each group is orthogonalised; and how many they are.
  pub made_array : (blank : Row) (f : WritebackId → Row) (m : ℕ) (l r : List WritebackId) → length (l ++ r) ≤ m → {ids : List RowId} {first len : ℕ} {rows : List Row}
      → ids ≡ ids_filled m (l ++ r) → first ≡ length l → len ≡ length (l ++ r) → rows ≡ finalize_groups group first len (filled m blank (map (λ i. f i.id) (take len ids)))
      → (rows ≡ filled m blank (finalize_of group (map f l) ++ finalize_of group (map f r))) × (len ≡ length (finalize_of group (map f l) ++ finalize_of group (map f r)))
  made_array blank f m l r h ei ef el e =
      let back : take (length (l ++ r)) (ids_filled m (l ++ r)) ≡ map row_id (l ++ r) = take-filled (row_id (Dof 0)) m (length (l ++ r)) (map row_id (l ++ r)) (length-map (l ++ r) row_id) h in
      (e ∙ rw (ei, ef, el, back, map-map (λ (i : RowId). f i.id) row_id (l ++ r)) (made-groups blank f m l r h), el ∙ sym (length-groups f l r))
