-- A list that is filled up to a length, as an array holds it: a store at its end, its first elements and those after them, and the loops
-- that fill one and that overwrite one from its start. Over any kind of element; assumes nothing.
use Prim.Native.Nat.{ℕ, zero, suc, ◌+◌, ◌-◌, ◌≤◌, ◌<◌}
use native.Mathlib.Nat.{le_of_suc-le-suc, not-suc-le-zero, suc-sub-suc, sub-zero, zero-sub}
use native.Mathlib.Numerals.{add-one}
use native.Mathlib.Omega.{arith}
use mathlib.Core.Path.{◌≡◌, refl, ap, ◌∙◌}
use mathlib.Core.List.{List, [], ◌∷◌, ◌++◌, map, append_assoc, map-append}
use lib.ListN.{length, get_or, set, take, drop, replicate, length-map}
use lib.Seq.{take_at, drop_at, take-suc, drop-cons, length-take-le, set_at, append_snoc}
use Rattle.rows.specs.RowIds.{filled}

module _ {A : Type 0} (x : A) where
  -- one more at the end
  pub set-filled : (m : ℕ) (l : List A) (a : A) → length l < m → set (filled m x l) (length l) a ≡ filled m x (l ++ (a ∷ []))
  set-filled zero l a h = absurd (not-suc-le-zero h)
  set-filled (suc m) [] a h = refl
  set-filled (suc m) (b ∷ l) a h = ap (λ t. b ∷ t) (set-filled m l a (le_of_suc-le-suc h))

  filled-nil : (m : ℕ) → filled m x [] ≡ replicate m x
  filled-nil zero = refl
  filled-nil (suc m) = ap (λ t. x ∷ t) (filled-nil m)

  pub filled-split : (m : ℕ) (l : List A) → length l ≤ m → filled m x l ≡ l ++ replicate (m - length l) x
  filled-split m [] h = filled-nil m ∙ rw sub-zero
  filled-split zero (a ∷ l) h = absurd (not-suc-le-zero h)
  filled-split (suc m) (a ∷ l) h = rw suc-sub-suc (ap (λ t. a ∷ t) (filled-split m l (le_of_suc-le-suc h)))

  pub length-filled : (m : ℕ) (l : List A) → length (filled m x l) ≡ m
  length-filled zero l = refl
  length-filled (suc m) [] = ap suc (length-filled m [])
  length-filled (suc m) (a ∷ l) = ap suc (length-filled m l)

  pub take-filled : (m n : ℕ) (l : List A) → length l ≡ n → n ≤ m → take n (filled m x l) ≡ l
  take-filled m n l e h =
      let k : length l ≤ m = omega (arith, e) in
      rw (filled-split m l k) (take_at l (replicate (m - length l) x) n e)

  pub drop-filled : (m n : ℕ) (l : List A) → length l ≡ n → n ≤ m → drop n (filled m x l) ≡ replicate (m - n) x
  drop-filled m n l e h =
      let k : length l ≤ m = omega (arith, e) in
      rw (filled-split m l k, drop_at l (replicate (m - length l) x) n e, e)

  -- the two parts of a list that is filled up
  pub first_part : (m n : ℕ) (l r : List A) → length l ≡ n → length (l ++ r) ≤ m → take n (filled m x (l ++ r)) ≡ l
  first_part m n l r e h =
      let rest : List A = replicate (m - length (l ++ r)) x in
      rw (filled-split m (l ++ r) h, append_assoc) (take_at l (r ++ rest) n e)

  pub second-part : (m n k : ℕ) (l r : List A) → length l ≡ n → length r ≡ k → length (l ++ r) ≤ m → take k (drop n (filled m x (l ++ r))) ≡ r
  second-part m n k l r e f h =
      let rest : List A = replicate (m - length (l ++ r)) x in
      rw (filled-split m (l ++ r) h, append_assoc, drop_at l (r ++ rest) n e) (take_at r rest k f)

  drop-replicate : (n m : ℕ) → drop n (replicate m x) ≡ replicate (m - n) x
  drop-replicate zero m = rw sub-zero
  drop-replicate (suc n) zero = rw zero-sub
  drop-replicate (suc n) (suc m) = rw suc-sub-suc (drop-replicate n m)

  -- an array of one filler whose first n elements are overwritten
  pub over-blank : (m n : ℕ) (l : List A) → length l ≡ n → n ≤ m → l ++ drop n (replicate m x) ≡ filled m x l
  over-blank m n l e h =
      let k : length l ≤ m = omega (arith, e) in
      rw (drop-replicate n m, filled-split m l k, e)

module _ {A B : Type 0} (f : A → B) (x : B) where
  -- a turn of the loop that fills an array with what f makes of a list
  pub push-mapped : (m : ℕ) (s : List A) (k : ℕ) (d : A) (ys : List B) (y : B) → k < m → k < length s
      → ys ≡ filled m x (map f (take k s)) → y ≡ f (get_or s k d)
      → set ys k y ≡ filled m x (map f (take (k + 1) s))
  push-mapped m s k d ys y h g e w =
      let l : List B = map f (take k s) in
      let q : length l ≡ k = length-map (take k s) f ∙ length-take-le k s (omega arith) in
      let stored : set (filled m x l) (length l) y ≡ filled m x (l ++ (y ∷ [])) = set-filled x m l y (omega (arith, q)) in
      let more : map f (take (k + 1) s) ≡ l ++ (y ∷ []) = rw (add-one, take-suc s k d g, map-append, ← w) in
      rw (e, more) (rw q at stored)

module _ {A : Type 0} (w o : List A) (k : ℕ) (h : k < length w) (g : k < length o) where
  -- a turn of the loop that overwrites the list o by the list w from its start
  pub overwrite-turn : {ys : List A} {y : A} (d : A) → ys ≡ take k w ++ drop k o → y ≡ get_or w k d → set ys k y ≡ take (k + 1) w ++ drop (k + 1) o
  overwrite-turn {ys} {y} d e v =
      rw (e, drop-cons o k d g, v, add-one, take-suc w k d h, append_snoc)
      (set_at (take k w) (get_or o k d) (drop (suc k) o) (get_or w k d) k (length-take-le k w (omega arith)))
