-- How many rows a joint has, whatever the numbers nl of linear and na of angular axes: each axis gives at most one of a motor and a lock, and at
-- most one limit, so that there are at most 2 * (nl + na) rows, which is 6 in the plane; and at most 2 * nl + na where the angular axes have
-- locks only. Assumes nothing.
use Prim.Native.Nat.{ℕ, zero, suc, ◌+◌, ◌*◌, ◌≤◌}
use native.Mathlib.Nat.{le_refl}
use native.Mathlib.Omega.{arith}
use mathlib.Core.Path.{◌≡◌, refl, ap}
use mathlib.Core.Bool.{Bool, true, false, not, cond, ◌&&◌, ◌||◌}
use mathlib.Core.List.{List, [], ◌∷◌, ◌++◌, map}
use lib.ListN.{length, length-append, length-map}
use mir.Val.{bool_byte}
use Rattle.rows.specs.declared.generic_joint.Masks.{Masks}
use Rattle.rows.specs.declared.joint_velocity_constraint.WritebackId.{WritebackId}
use Rattle.rows.specs.declared.joint_velocity_constraint.WritebackId.TheVariants.{Dof, Limit, Motor}
use Rattle.rows.specs.RowIds.{has_axis, is_locked, is_motor, is_limit, is_coupled, axes, keep, some, lowest, first_coupled, in_order, shares_linear, group_one, lock_ids, limit_ids, group_two, row_ids}

-- 1 for true
abbrev pub bit : Bool → ℕ
bit b = cond b 1 0

-- a bool as a number
pub byte-bit : (b : Bool) → bool_byte b ≡ bit b
byte-bit true = refl
byte-bit false = refl

pub byte_le : (b : Bool) → bool_byte b ≤ 1
byte_le true = omega arith
byte_le false = omega arith

-- how many of a list pass a test
abbrev pub count : (ℕ → Bool) → List ℕ → ℕ
count p l = length (keep p l)

length-cond : (b : Bool) (i : ℕ) (l : List ℕ) → length (cond b (i ∷ l) l) ≡ bit b + length l
length-cond true i l = omega arith
length-cond false i l = omega arith

pub count-cons : (p : ℕ → Bool) (i : ℕ) (l : List ℕ) → count p (i ∷ l) ≡ bit (p i) + count p l
count-cons p i l = length-cond (p i) i (keep p l)

bit_le : (b : Bool) → bit b ≤ 1
bit_le true = omega arith
bit_le false = omega arith

pub count-le : (p : ℕ → Bool) (l : List ℕ) → count p l ≤ length l
count-le p [] = omega arith
count-le p (i ∷ l) = omega (arith, count-cons p i l, bit_le (p i), count-le p l)

count-append : (p : ℕ → Bool) (a b : List ℕ) → count p (a ++ b) ≡ count p a + count p b
count-append p [] b = omega arith
count-append p (i ∷ a) b = omega (arith, count-cons p i (a ++ b), count-cons p i a, count-append p a b)

bit-split : (a b : Bool) → bit (a && not b) + bit (a && b) ≡ bit a
bit-split true true = refl
bit-split true false = refl
bit-split false b = refl

-- those that pass p lie outside q or inside
count-split : (p q : ℕ → Bool) (l : List ℕ) → count (λ i. p i && not (q i)) l + count (λ i. p i && q i) l ≡ count p l
count-split p q [] = refl
count-split p q (i ∷ l) =
    omega (arith, count-cons (λ i. p i && not (q i)) i l, count-cons (λ i. p i && q i) i l, count-cons p i l, bit-split (p i) (q i), count-split p q l)

bit-apart : (a b : Bool) → bit (a && not b) + bit b ≤ 1
bit-apart true true = omega arith
bit-apart true false = omega arith
bit-apart false true = omega arith
bit-apart false false = omega arith

-- of two tests that exclude each other, each member passes at most one
count-apart : (p q : ℕ → Bool) (l : List ℕ) → count (λ i. p i && not (q i)) l + count q l ≤ length l
count-apart p q [] = omega arith
count-apart p q (i ∷ l) = omega (arith, count-cons (λ i. p i && not (q i)) i l, count-cons q i l, bit-apart (p i) (q i), count-apart p q l)

bit_or : (a b : Bool) → bit (a || b) ≤ bit a + bit b
bit_or true b = omega arith
bit_or false b = omega arith

some-count : (p : ℕ → Bool) (l : List ℕ) → bit (some p l) ≤ count p l
some-count p [] = omega arith
some-count p (i ∷ l) = omega (arith, bit_or (p i) (some p l), count-cons p i l, some-count p l)

length-first : (l : List ℕ) → length (lowest l) ≤ 1
length-first [] = omega arith
length-first (i ∷ l) = omega arith

length-once : (f : ℕ → WritebackId) (b : Bool) (l : List ℕ) → length (cond b (map f (lowest l)) []) ≤ bit b
length-once f true l = omega (arith, length-map (lowest l) f, length-first l)
length-once f false l = omega arith

bit_and : (a b : Bool) → b ≡ true → bit (a && b) ≡ bit a
bit_and true b e = ap bit e
bit_and false b e = refl

first_step : (p q : ℕ → Bool) (i : ℕ) (l : List ℕ) (b : Bool) → q i ≡ b → count p (lowest (keep q l)) ≤ count (λ i. p i && q i) l
    → count p (lowest (keep q (i ∷ l))) ≤ count (λ i. p i && q i) (i ∷ l)
first_step p q i l true e h =
    let a : count p (lowest (keep q (i ∷ l))) ≡ count p (i ∷ []) = rw e in
    omega (arith, a, count-cons p i [], count-cons (λ i. p i && q i) i l, bit_and (p i) (q i) e)
first_step p q i l false e h =
    let a : count p (lowest (keep q (i ∷ l))) ≡ count p (lowest (keep q l)) = rw e in
    omega (arith, a, count-cons (λ i. p i && q i) i l)

-- the first of those that pass q: it passes p too at most where one passes both
first_count : (p q : ℕ → Bool) (l : List ℕ) → count p (lowest (keep q l)) ≤ count (λ i. p i && q i) l
first_count p q [] = omega arith
first_count p q (i ∷ l) = first_step p q i l (q i) refl (first_count p q l)

some-step : (p q : ℕ → Bool) (i : ℕ) (l : List ℕ) (a b : Bool) → q i ≡ b → ((a && b) || some (λ i. p i && q i) l) ≡ true
    → (some (λ i. p i && q i) l ≡ true → length (lowest (keep q l)) ≡ 1) → length (lowest (keep q (i ∷ l))) ≡ 1
some-step p q i l a true e s h = rw e
some-step p q i l true false e s h = rw e (h s)
some-step p q i l false false e s h = rw e (h s)

-- where one passes both, there is a first of those that pass q
pub some_first : (p q : ℕ → Bool) (l : List ℕ) → some (λ i. p i && q i) l ≡ true → length (lowest (keep q l)) ≡ 1
some_first p q [] s = cc
some_first p q (i ∷ l) s = some-step p q i l (p i) (q i) refl s (some_first p q l)

bit-or-false : (b : Bool) → bit (b || false) ≡ bit b
bit-or-false true = refl
bit-or-false false = refl

pub count-first : (p : ℕ → Bool) (l : List ℕ) → count p (lowest l) ≡ bit (some p (lowest l))
count-first p [] = refl
count-first p (i ∷ l) = omega (arith, count-cons p i [], bit-or-false (p i))

once : (b : Bool) (l : List ℕ) → (b ≡ true → length l ≡ 1) → length (cond b (map Motor l) []) ≡ bit b
once true l h = omega (arith, length-map l Motor, h refl)
once false l h = refl

length-axes : (i n : ℕ) → length (axes i n) ≡ n
length-axes i zero = refl
length-axes i (suc n) = ap suc (length-axes (suc i) n)

module _ (nl na : ℕ) (k : Masks) where
  motors-count : length (group_one nl na k) ≤ count (is_motor k) (axes nl na) + count (is_motor k) (axes 0 nl)
  motors-count =
      let outside : ℕ → Bool = λ i. is_motor k i && not (is_coupled k i) in
      let inside : ℕ → Bool = λ i. is_motor k i && is_coupled k i in
      omega (
        arith,
        length-append (map Motor (keep outside (in_order nl na))) (cond (shares_linear nl k) (map Motor (first_coupled nl k)) []),
        length-map (keep outside (in_order nl na)) Motor,
        count-append outside (axes nl na) (axes 0 nl),
        length-once Motor (shares_linear nl k) (keep (is_coupled k) (axes 0 nl)),
        some-count inside (axes 0 nl),
        count-split (is_motor k) (is_coupled k) (axes nl na),
        count-split (is_motor k) (is_coupled k) (axes 0 nl),
      )

  locks-count : length (lock_ids nl na k) ≡ count (is_locked k) (axes nl na) + count (is_locked k) (axes 0 nl)
  locks-count = omega (arith, length-map (keep (is_locked k) (in_order nl na)) Dof, count-append (is_locked k) (axes nl na) (axes 0 nl))

  limits-count : length (limit_ids nl na k) ≤ count (is_limit k) (axes nl na) + count (is_limit k) (axes 0 nl)
  limits-count =
      let outside : ℕ → Bool = λ i. is_limit k i && not (is_coupled k i) in
      omega (
        arith,
        length-append (map Limit (keep outside (in_order nl na))) (map Limit (keep (is_limit k) (first_coupled nl k))),
        length-map (keep outside (in_order nl na)) Limit,
        length-map (keep (is_limit k) (first_coupled nl k)) Limit,
        count-append outside (axes nl na) (axes 0 nl),
        first_count (is_limit k) (is_coupled k) (axes 0 nl),
        count-split (is_limit k) (is_coupled k) (axes nl na),
        count-split (is_limit k) (is_coupled k) (axes 0 nl),
      )

  -- each axis has at most one of a motor and a lock
  motor-or-lock : (l : List ℕ) → count (is_motor k) l + count (is_locked k) l ≤ length l
  motor-or-lock l = count-apart (λ i. has_axis k.motor_axes i) (is_locked k) l

  limit-or-lock : (l : List ℕ) → count (is_limit k) l + count (is_locked k) l ≤ length l
  limit-or-lock l = count-apart (λ i. has_axis k.limit_axes i) (is_locked k) l

  -- group one and the locks together
  pub motors-and-locks : length (group_one nl na k ++ lock_ids nl na k) ≤ nl + na
  motors-and-locks =
      omega (
        arith,
        length-append (group_one nl na k) (lock_ids nl na k),
        motors-count,
        locks-count,
        motor-or-lock (axes nl na),
        motor-or-lock (axes 0 nl),
        length-axes nl na,
        length-axes 0 nl,
      )

  pub limits-fit : length (limit_ids nl na k) ≤ nl + na
  limits-fit = omega (arith, limits-count, limit-or-lock (axes nl na), limit-or-lock (axes 0 nl), length-axes nl na, length-axes 0 nl)

  length-groups : length (row_ids nl na k) ≡ length (group_one nl na k) + length (lock_ids nl na k) + length (limit_ids nl na k)
  unfolding row_ids
  length-groups = omega (arith, length-append (group_one nl na k) (group_two nl na k), length-append (lock_ids nl na k) (limit_ids nl na k))

  pub at-most : length (row_ids nl na k) ≤ 2 * (nl + na)
  at-most = omega (arith, length-groups, length-append (group_one nl na k) (lock_ids nl na k), motors-and-locks, limits-fit)

  -- where the angular axes have locks only
  none-angular : (p : ℕ → Bool) → ((i : ℕ) → nl ≤ i → p i ≡ false) → (i n : ℕ) → nl ≤ i → count p (axes i n) ≡ 0
  none-angular p h i zero g = refl
  none-angular p h i (suc n) g =
      omega (arith, count-cons p i (axes (suc i) n), ap bit (h i g), none-angular p h (suc i) n (omega arith))

  pub at-most-with-angular-locks : ((i : ℕ) → nl ≤ i → is_motor k i ≡ false) → ((i : ℕ) → nl ≤ i → is_limit k i ≡ false) → length (row_ids nl na k) ≤ 2 * nl + na
  at-most-with-angular-locks m t =
      omega (
        arith,
        length-groups,
        motors-count,
        locks-count,
        limits-count,
        none-angular (is_motor k) m nl na (le_refl nl),
        none-angular (is_limit k) t nl na (le_refl nl),
        motor-or-lock (axes 0 nl),
        limit-or-lock (axes 0 nl),
        count-le (is_locked k) (axes nl na),
        length-axes nl na,
        length-axes 0 nl,
      )

-- a planar joint has at most six rows
pub at-most-six : (k : Masks) → length (row_ids 2 1 k) ≤ 6
at-most-six k = at-most 2 1 k
