-- A joint's ids, whatever the numbers nl of linear and na of angular axes: those of group one are motors, those of group two locks and limits; each
-- is of an axis below nl + na; and none stands twice. Without masks there is none (`no-ids`).
use Prim.Native.Nat.{ℕ, zero, suc, ◌+◌, ◌^◌, ◌≤◌, ◌<◌}
use native.Mathlib.Nat.{zero-div}
use native.Mathlib.Omega.{arith}
use mathlib.Core.Path.{◌≡◌, refl}
use mathlib.Core.Bool.{Bool, true, false, not, cond, ◌&&◌}
use mathlib.Core.List.{List, [], ◌∷◌, ◌++◌, map}
use Rattle.rows.specs.declared.generic_joint.Masks.{Masks}
use Rattle.rows.specs.declared.joint_velocity_constraint.WritebackId.{WritebackId}
use Rattle.rows.specs.declared.joint_velocity_constraint.WritebackId.TheVariants.{Dof, Limit, Motor}
use Rattle.rows.specs.RowIds.{is_locked, is_motor, is_limit, is_coupled, axes, keep, some, lowest, first_coupled, in_order, shares_linear, group_one, lock_ids, limit_ids, group_two, row_ids, no_masks, has_axis}

-- ---- lists

-- each member has a property
abbrev pub All : {A : Type 0} → (A → Type 0) → List A → Type 0
All P [] = Unit {0}
All P (x ∷ l) = P x × All P l

-- no member stands twice
abbrev pub Distinct : {A : Type 0} → List A → Type 0
Distinct [] = Unit {0}
Distinct (x ∷ l) = All (λ y. x ≡ y → ⊥) l × Distinct l

all_append : {A : Type 0} (P : A → Type 0) (a b : List A) → All P a → All P b → All P (a ++ b)
all_append P [] b x y = y
all_append P (i ∷ a) b x y = (x.0, all_append P a b x.1 y)

all_map : {A B : Type 0} (P : B → Type 0) (f : A → B) (l : List A) → All (λ x. P (f x)) l → All P (map f l)
all_map P f [] x = tt
all_map P f (i ∷ l) x = (x.0, all_map P f l x.1)

all-imp : {A : Type 0} (P Q : A → Type 0) (l : List A) → ((x : A) → P x → Q x) → All P l → All Q l
all-imp P Q [] h x = tt
all-imp P Q (i ∷ l) h x = (h i x.0, all-imp P Q l h x.1)

all_any : {A : Type 0} (P : A → Type 0) (l : List A) → ((x : A) → P x) → All P l
all_any P [] h = tt
all_any P (i ∷ l) h = (h i, all_any P l h)

all-cond : (P : ℕ → Type 0) (b : Bool) (i : ℕ) (l : List ℕ) → (b ≡ true → P i) → All P l → All P (cond b (i ∷ l) l)
all-cond P true i l h x = (h refl, x)
all-cond P false i l h x = x

all_keep : (P : ℕ → Type 0) (p : ℕ → Bool) (l : List ℕ) → All P l → All P (keep p l)
all_keep P p [] x = tt
all_keep P p (i ∷ l) x = all-cond P (p i) i (keep p l) (λ t. x.0) (all_keep P p l x.1)

all-kept : (p : ℕ → Bool) (l : List ℕ) → All (λ i. p i ≡ true) (keep p l)
all-kept p [] = tt
all-kept p (i ∷ l) = all-cond (λ i. p i ≡ true) (p i) i (keep p l) (λ t. t) (all-kept p l)

all_first : (P : ℕ → Type 0) (l : List ℕ) → All P l → All P (lowest l)
all_first P [] x = tt
all_first P (i ∷ l) x = (x.0, tt)

all-if : {A : Type 0} (P : A → Type 0) (b : Bool) (l : List A) → All P l → All P (cond b l [])
all-if P true l x = x
all-if P false l x = tt

distinct_append : {A : Type 0} (P Q : A → Type 0) (a b : List A) → ((x y : A) → P x → Q y → x ≡ y → ⊥) → Distinct a → Distinct b → All P a → All Q b → Distinct (a ++ b)
distinct_append P Q [] b h da db x y = db
distinct_append {A} P Q (i ∷ a) b h da db x y =
    (all_append (λ j. i ≡ j → ⊥) a b da.0 (all-imp Q (λ j. i ≡ j → ⊥) b (λ j q. h i j x.0 q) y), distinct_append P Q a b h da.1 db x.1 y)

distinct-map : {A B : Type 0} (f : A → B) (l : List A) → ((x y : A) → f x ≡ f y → x ≡ y) → Distinct l → Distinct (map f l)
distinct-map f [] h d = tt
distinct-map f (i ∷ l) h d =
    (all_map (λ y. f i ≡ y → ⊥) f l (all-imp (λ j. i ≡ j → ⊥) (λ j. f i ≡ f j → ⊥) l (λ j n e. n (h i j e)) d.0), distinct-map f l h d.1)

distinct_cond : (b : Bool) (i : ℕ) (l : List ℕ) → All (λ j. i ≡ j → ⊥) l → Distinct l → Distinct (cond b (i ∷ l) l)
distinct_cond true i l n d = (n, d)
distinct_cond false i l n d = d

distinct-keep : (p : ℕ → Bool) (l : List ℕ) → Distinct l → Distinct (keep p l)
distinct-keep p [] d = tt
distinct-keep p (i ∷ l) d = distinct_cond (p i) i (keep p l) (all_keep (λ j. i ≡ j → ⊥) p l d.0) (distinct-keep p l d.1)

distinct-first : (l : List ℕ) → Distinct (lowest l)
distinct-first [] = tt
distinct-first (i ∷ l) = (tt, tt)

distinct-if : {A : Type 0} (b : Bool) (l : List A) → Distinct l → Distinct (cond b l [])
distinct-if true l d = d
distinct-if false l d = tt

-- ---- axes

axes-from : (i n : ℕ) → All (λ j. i ≤ j) (axes i n)
axes-from i zero = tt
axes-from i (suc n) = (omega arith, all-imp (λ j. suc i ≤ j) (λ j. i ≤ j) (axes (suc i) n) (λ j h. omega arith) (axes-from (suc i) n))

axes-to : (i n m : ℕ) → i + n ≤ m → All (λ j. j < m) (axes i n)
axes-to i zero m h = tt
axes-to i (suc n) m h = (omega arith, axes-to (suc i) n m (omega arith))

distinct-axes : (i n : ℕ) → Distinct (axes i n)
distinct-axes i zero = tt
distinct-axes i (suc n) = (all-imp (λ j. suc i ≤ j) (λ j. i ≡ j → ⊥) (axes (suc i) n) (λ j h e. omega arith) (axes-from (suc i) n), distinct-axes (suc i) n)

-- ---- ids

abbrev pub IsMotor : WritebackId → Type 0
IsMotor (Motor i) = Unit {0}
IsMotor (Dof i) = ⊥
IsMotor (Limit i) = ⊥

abbrev pub IsDof : WritebackId → Type 0
IsDof (Dof i) = Unit {0}
IsDof (Motor i) = ⊥
IsDof (Limit i) = ⊥

abbrev pub IsLimit : WritebackId → Type 0
IsLimit (Limit i) = Unit {0}
IsLimit (Motor i) = ⊥
IsLimit (Dof i) = ⊥

-- a lock or a limit
abbrev pub IsRest : WritebackId → Type 0
IsRest (Motor i) = ⊥
IsRest (Dof i) = Unit {0}
IsRest (Limit i) = Unit {0}

abbrev pub axis_of : WritebackId → ℕ
axis_of (Dof i) = i
axis_of (Limit i) = i
axis_of (Motor i) = i

motor-not-rest : (x y : WritebackId) → IsMotor x → IsRest y → x ≡ y → ⊥
motor-not-rest (Motor i) (Dof j) m r e = let z : ◌≡◌ {A = ℕ} 0 1 = cc in omega arith
motor-not-rest (Motor i) (Limit j) m r e = let z : ◌≡◌ {A = ℕ} 0 1 = cc in omega arith
motor-not-rest (Motor i) (Motor j) m r e = r
motor-not-rest (Dof i) y m r e = m
motor-not-rest (Limit i) y m r e = m

dof-not-limit : (x y : WritebackId) → IsDof x → IsLimit y → x ≡ y → ⊥
dof-not-limit (Dof i) (Limit j) m r e = let z : ◌≡◌ {A = ℕ} 0 1 = cc in omega arith
dof-not-limit (Dof i) (Dof j) m r e = r
dof-not-limit (Dof i) (Motor j) m r e = r
dof-not-limit (Motor i) y m r e = m
dof-not-limit (Limit i) y m r e = m

and-not : (a b : Bool) → (a && not b) ≡ true → b ≡ false
and-not true false t = refl
and-not true true t = cc
and-not false b t = cc

module _ (nl na : ℕ) (k : Masks) where
  -- the axes of the three runs outside C, in order
  abbrev motors : List ℕ
  motors = keep (λ i. is_motor k i && not (is_coupled k i)) (in_order nl na)

  abbrev locks : List ℕ
  locks = keep (is_locked k) (in_order nl na)

  abbrev limits : List ℕ
  limits = keep (λ i. is_limit k i && not (is_coupled k i)) (in_order nl na)

  -- the axes of C's linear part, and F where T holds it
  abbrev coupled : List ℕ
  coupled = keep (is_coupled k) (axes 0 nl)

  abbrev coupled_limit : List ℕ
  coupled_limit = keep (is_limit k) (first_coupled nl k)

  -- what holds of every axis holds of every id
  motors-all : (P : WritebackId → Type 0) → All (λ i. P (Motor i)) (in_order nl na) → All (λ i. P (Motor i)) (axes 0 nl) → All P (group_one nl na k)
  motors-all P x y =
      all_append P (map Motor motors) (cond (shares_linear nl k) (map Motor (first_coupled nl k)) [])
      (all_map P Motor motors (all_keep (λ i. P (Motor i)) (λ i. is_motor k i && not (is_coupled k i)) (in_order nl na) x))
      (all-if P (shares_linear nl k) (map Motor (first_coupled nl k))
      (all_map P Motor (first_coupled nl k) (all_first (λ i. P (Motor i)) coupled (all_keep (λ i. P (Motor i)) (is_coupled k) (axes 0 nl) y))))

  locks-all : (P : WritebackId → Type 0) → All (λ i. P (Dof i)) (in_order nl na) → All P (lock_ids nl na k)
  locks-all P x = all_map P Dof locks (all_keep (λ i. P (Dof i)) (is_locked k) (in_order nl na) x)

  limits-all : (P : WritebackId → Type 0) → All (λ i. P (Limit i)) (in_order nl na) → All (λ i. P (Limit i)) (axes 0 nl) → All P (limit_ids nl na k)
  limits-all P x y =
      all_append P (map Limit limits) (map Limit coupled_limit)
      (all_map P Limit limits (all_keep (λ i. P (Limit i)) (λ i. is_limit k i && not (is_coupled k i)) (in_order nl na) x))
      (all_map P Limit coupled_limit
      (all_keep (λ i. P (Limit i)) (is_limit k) (first_coupled nl k) (all_first (λ i. P (Limit i)) coupled (all_keep (λ i. P (Limit i)) (is_coupled k) (axes 0 nl) y))))

  abbrev any : (l : List ℕ) → All (λ i. Unit {0}) l
  any l = all_any (λ i. Unit {0}) l (λ i. tt)

  pub group-one : All IsMotor (group_one nl na k)
  group-one = motors-all IsMotor (any (in_order nl na)) (any (axes 0 nl))

  pub ids-groups : row_ids nl na k ≡ group_one nl na k ++ group_two nl na k
  unfolding row_ids
  ids-groups = refl

  pub group-two : All IsRest (group_two nl na k)
  group-two =
      all_append IsRest (lock_ids nl na k) (limit_ids nl na k) (locks-all IsRest (any (in_order nl na)))
      (limits-all IsRest (any (in_order nl na)) (any (axes 0 nl)))

  -- every id is of one of the joint's axes
  pub axis-below : All (λ x. axis_of x < nl + na) (row_ids nl na k)
  unfolding row_ids
  axis-below =
      let P : WritebackId → Type 0 = λ x. axis_of x < nl + na in
      let linear : All (λ i. i < nl + na) (axes 0 nl) = axes-to 0 nl (nl + na) (omega arith) in
      let every : All (λ i. i < nl + na) (in_order nl na) =
      all_append (λ i. i < nl + na) (axes nl na) (axes 0 nl) (axes-to nl na (nl + na) (omega arith)) linear in
      all_append P (group_one nl na k) (group_two nl na k) (motors-all P every linear)
      (all_append P (lock_ids nl na k) (limit_ids nl na k) (locks-all P every) (limits-all P every linear))

  -- ---- no id stands twice

  distinct-order : Distinct (in_order nl na)
  distinct-order =
      distinct_append (λ i. nl ≤ i) (λ i. i < nl) (axes nl na) (axes 0 nl) (λ i j h g e. omega arith) (distinct-axes nl na) (distinct-axes 0 nl)
      (axes-from nl na) (axes-to 0 nl nl (omega arith))

  -- what lies outside C, and F, which lies in it
  outside : (p : ℕ → Bool) → All (λ i. is_coupled k i ≡ false) (keep (λ i. p i && not (is_coupled k i)) (in_order nl na))
  outside p =
      all-imp (λ i. (p i && not (is_coupled k i)) ≡ true) (λ i. is_coupled k i ≡ false) (keep (λ i. p i && not (is_coupled k i)) (in_order nl na)) (λ i t. and-not (p i) (is_coupled k i) t)
      (all-kept (λ i. p i && not (is_coupled k i)) (in_order nl na))

  inside : All (λ i. is_coupled k i ≡ true) (first_coupled nl k)
  inside = all_first (λ i. is_coupled k i ≡ true) coupled (all-kept (is_coupled k) (axes 0 nl))

  -- an id of an axis outside C, or in it
  abbrev Coupled : Bool → WritebackId → Type 0
  Coupled b x = is_coupled k (axis_of x) ≡ b

  apart : (x y : WritebackId) → Coupled false x → Coupled true y → x ≡ y → ⊥
  apart x y f t e =
      let g : is_coupled k (axis_of y) ≡ false = rw e at f in
      let z : ◌≡◌ {A = ℕ} 0 1 = cc in
      omega arith

  distinct-one : Distinct (group_one nl na k)
  distinct-one =
      distinct_append (Coupled false) (Coupled true) (map Motor motors) (cond (shares_linear nl k) (map Motor (first_coupled nl k)) []) apart
      (distinct-map Motor motors (λ i j e. cc) (distinct-keep (λ i. is_motor k i && not (is_coupled k i)) (in_order nl na) distinct-order))
      (distinct-if (shares_linear nl k) (map Motor (first_coupled nl k)) (distinct-map Motor (first_coupled nl k) (λ i j e. cc) (distinct-first coupled)))
      (all_map (Coupled false) Motor motors (outside (is_motor k)))
      (all-if (Coupled true) (shares_linear nl k) (map Motor (first_coupled nl k)) (all_map (Coupled true) Motor (first_coupled nl k) inside))

  distinct-limits : Distinct (limit_ids nl na k)
  distinct-limits =
      distinct_append (Coupled false) (Coupled true) (map Limit limits) (map Limit coupled_limit) apart
      (distinct-map Limit limits (λ i j e. cc) (distinct-keep (λ i. is_limit k i && not (is_coupled k i)) (in_order nl na) distinct-order))
      (distinct-map Limit coupled_limit (λ i j e. cc) (distinct-keep (is_limit k) (first_coupled nl k) (distinct-first coupled)))
      (all_map (Coupled false) Limit limits (outside (is_limit k)))
      (all_map (Coupled true) Limit coupled_limit (all_keep (λ i. is_coupled k i ≡ true) (is_limit k) (first_coupled nl k) inside))

  distinct-two : Distinct (group_two nl na k)
  distinct-two =
      distinct_append IsDof IsLimit (lock_ids nl na k) (limit_ids nl na k) dof-not-limit
      (distinct-map Dof locks (λ i j e. cc) (distinct-keep (is_locked k) (in_order nl na) distinct-order)) distinct-limits
      (locks-all IsDof (any (in_order nl na))) (limits-all IsLimit (any (in_order nl na)) (any (axes 0 nl)))

  pub distinct : Distinct (row_ids nl na k)
  unfolding row_ids
  distinct = distinct_append IsMotor IsRest (group_one nl na k) (group_two nl na k) motor-not-rest distinct-one distinct-two group-one group-two

-- ---- without masks

no-axis : (i : ℕ) → has_axis 0 i ≡ false
unfolding has_axis
no-axis i = rw (zero-div (2 ^ i))

keep-none : (p : ℕ → Bool) → ((i : ℕ) → p i ≡ false) → (l : List ℕ) → keep p l ≡ []
keep-none p h [] = refl
keep-none p h (i ∷ l) = rw (h i, keep-none p h l)

some-none : (p : ℕ → Bool) → ((i : ℕ) → p i ≡ false) → (l : List ℕ) → some p l ≡ false
some-none p h [] = refl
some-none p h (i ∷ l) = rw (h i, some-none p h l)

pub no-ids : (nl na : ℕ) → row_ids nl na no_masks ≡ []
unfolding row_ids
no-ids nl na =
    rw (
      keep-none (λ i. is_motor no_masks i && not (is_coupled no_masks i)) (λ i. rw (no-axis i)) (in_order nl na),
      some-none (λ i. is_motor no_masks i && is_coupled no_masks i) (λ i. rw (no-axis i)) (axes 0 nl),
      keep-none (is_locked no_masks) no-axis (in_order nl na),
      keep-none (is_limit no_masks) (λ i. rw (no-axis i)) (first_coupled nl no_masks),
    )
