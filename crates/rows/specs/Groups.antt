-- Orthogonalising a group of rows, the Rust's `finalize_constraints`, for any kind of row: no number of axes stands here. The rows of a planar joint are one kind
-- (specs/Finalize), those of a joint in space are another (document 02, R-14).
use Rattle.std.specs.Prelude.{ℕ, zero, suc, ◌-◌, Bool, cond, List, [], ◌∷◌, ◌++◌, map, length, take, drop, Float}

-- The modified Gram-Schmidt process. Each of n rows in turn is finished by its head step; if it is a lock, each later row is reduced by it.
unfoldable pub orthogonalise_n : {Row : Type 0} → (Row → Row) → (Row → Bool) → (Row → Row → Row) → ℕ → List Row → List Row
orthogonalise_n head lock reduce zero cs = cs
orthogonalise_n head lock reduce (suc n) [] = []
orthogonalise_n head lock reduce (suc n) (c ∷ cs) =
    head c ∷ orthogonalise_n head lock reduce n (cond (lock (head c)) (map (reduce (head c)) cs) cs)

abbrev pub orthogonalise : {Row : Type 0} → (Row → Row) → (Row → Bool) → (Row → Row → Row) → List Row → List Row
orthogonalise head lock reduce cs = orthogonalise_n head lock reduce (length cs) cs

-- what orthogonalising reads of a kind of row
pub record Group : Type 1 where
  pub Row : Type 0
  -- both bodies' inverse masses, which a group takes from its first row
  pub Masses : Type 0
  pub im_sum_of : Row → Masses
  -- the head step, and the lock test
  pub head_of : Masses → Row → Row
  pub is_lock : Row → Bool
  -- the Rust's inv_dot_jj, and the step of a pair of rows with it at hand: the later row less its part along the lock
  pub inv_dot_of : Masses → Row → Float
  pub pair_of : Masses → Float → Row → Row → Row

-- of a type of rows
abbrev pub group_of : (Row Masses : Type 0) → (Row → Masses) → (Masses → Row → Row) → (Row → Bool) → (Masses → Row → Float) → (Masses → Float → Row → Row → Row) → Group
group_of Row Masses im_sum_of head_of is_lock inv_dot_of pair_of =
    record { Row = Row; Masses = Masses; im_sum_of = im_sum_of; head_of = head_of; is_lock = is_lock; inv_dot_of = inv_dot_of; pair_of = pair_of }

module _ (group : Group) where
  open group use {Row, Masses, im_sum_of, head_of, is_lock, inv_dot_of, pair_of}

  -- row c_i made orthogonal to the lock c_j, so that J_i M⁻¹ J_jᵀ is 0 but for rounding
  unfoldable pub reduce_of : Masses → Row → Row → Row
  reduce_of imsum cj ci = pair_of imsum (inv_dot_of imsum cj) cj ci

  -- `finalize_constraints`
  unfoldable pub finalize_of : List Row → List Row
  finalize_of [] = []
  finalize_of (c ∷ cs) = orthogonalise (head_of (im_sum_of c)) is_lock (reduce_of (im_sum_of c)) (c ∷ cs)

  -- the first len of a list of rows orthogonalised as two groups, of which the first has n rows; the rows after them stay
  unfoldable pub finalize_groups : ℕ → ℕ → List Row → List Row
  finalize_groups n len cs = finalize_of (take n cs) ++ (finalize_of (take (len - n) (drop n cs)) ++ drop len cs)
