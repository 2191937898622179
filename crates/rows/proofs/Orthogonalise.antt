-- The two loops that orthogonalise a group of rows, for any kind of row with its head step, its lock test and the step that reduces a later row.
-- A turn of a loop at place i does to a list what makes the work left from place i + 1 on come to the work left from place i on:
-- `pair_turn` for the inner loop, `lock-turn` and `free-turn` for the outer one. At the end no work is left (`between-end`).
use mathlib.Core.Path.{◌≡◌, refl, ◌∙◌, ap}
use Prim.Native.Nat.{ℕ, zero, suc, ◌+◌, ◌<◌, ◌≤◌}
use native.Mathlib.Nat.{not-suc-le-zero, le_of_suc-le-suc}
use native.Mathlib.Numerals.{add-one}
use mathlib.Core.Bool.{Bool, true, false}
use mathlib.Core.List.{List, [], ◌∷◌, ◌++◌, map}
use lib.ListN.{length, get_or, set, take, drop, length-map}
use lib.Seq.{length-take-le, take_at, drop_at}
use Rattle.rows.specs.Groups.{orthogonalise_n, orthogonalise}

-- a list with its part from place i to before place n changed by f
unfoldable pub between : {A : Type 0} → (List A → List A) → ℕ → ℕ → List A → List A
between f zero n xs = f (take n xs) ++ drop n xs
between f (suc i) zero xs = xs
between f (suc i) (suc n) [] = []
between f (suc i) (suc n) (x ∷ xs) = x ∷ between f i n xs

module _ {A : Type 0} where
  -- no place is left
  pub between-end : (f : List A → List A) → f [] ≡ [] → (i n : ℕ) (xs : List A) → n ≤ i → between f i n xs ≡ xs
  unfolding between
  between-end f e zero zero xs l = ap (λ (t : List A). t ++ xs) e
  between-end f e zero (suc n) xs l = absurd (not-suc-le-zero l)
  between-end f e (suc i) zero xs l = refl
  between-end f e (suc i) (suc n) [] l = refl
  between-end f e (suc i) (suc n) (x ∷ xs) l = ap (λ (t : List A). x ∷ t) (between-end f e i n xs (le_of_suc-le-suc l))

  -- one part is changed twice
  pub between-between : (f g : List A → List A) → ((xs : List A) → length (g xs) ≡ length xs) → (i n : ℕ) (xs : List A) → n ≤ length xs
      → between f i n (between g i n xs) ≡ between (λ ys. f (g ys)) i n xs
  unfolding between
  between-between f g k zero n xs l =
      let e : length (g (take n xs)) ≡ n = k (take n xs) ∙ length-take-le n xs l in
      rw (take_at (g (take n xs)) (drop n xs) n e, drop_at (g (take n xs)) (drop n xs) n e)
  between-between f g k (suc i) zero xs l = refl
  between-between f g k (suc i) (suc n) [] l = refl
  between-between f g k (suc i) (suc n) (x ∷ xs) l = ap (λ (t : List A). x ∷ t) (between-between f g k i n xs (le_of_suc-le-suc l))

  pair-suc : (f : A → A) (i n : ℕ) (xs : List A) (d : A) → i < n → n ≤ length xs → between (map f) (suc i) n (set xs i (f (get_or xs i d))) ≡ between (map f) i n xs
  unfolding between
  pair-suc f i zero xs d h l = absurd (not-suc-le-zero h)
  pair-suc f i (suc n) [] d h l = absurd (not-suc-le-zero l)
  pair-suc f zero (suc n) (x ∷ xs) d h l = refl
  pair-suc f (suc i) (suc n) (x ∷ xs) d h l = ap (λ (t : List A). x ∷ t) (pair-suc f i n xs d (le_of_suc-le-suc h) (le_of_suc-le-suc l))

  -- a turn of the inner loop: f reduces a row by the lock
  pub pair_turn : (f : A → A) (i n : ℕ) (xs : List A) (d y : A) → i < n → n ≤ length xs → y ≡ f (get_or xs i d)
      → between (map f) (i + 1) n (set xs i y) ≡ between (map f) i n xs
  pair_turn f i n xs d y h l e = rw (add-one, e) (pair-suc f i n xs d h l)

module _ {Row : Type 0} (head : Row → Row) (lock : Row → Bool) (reduce : Row → Row → Row) where
  -- the whole of a part is orthogonalised by itself
  abbrev pub rest : ℕ → ℕ → List Row → List Row
  rest j n cs = between (orthogonalise head lock reduce) j n cs

  lock-suc : (j n : ℕ) (cs : List Row) (d : Row) → j < n → n ≤ length cs → lock (head (get_or cs j d)) ≡ true
      → rest (suc j) n (between (map (reduce (head (get_or cs j d)))) (suc j) n (set cs j (head (get_or cs j d)))) ≡ rest j n cs
  unfolding between orthogonalise_n
  lock-suc j zero cs d h l t = absurd (not-suc-le-zero h)
  lock-suc j (suc n) [] d h l t = absurd (not-suc-le-zero l)
  lock-suc zero (suc n) (c ∷ cs) d h l t =
      rw (between-between (orthogonalise head lock reduce) (map (reduce (head c))) (λ xs. length-map xs (reduce (head c))) zero n cs (le_of_suc-le-suc l), length-map, t)
  lock-suc (suc j) (suc n) (c ∷ cs) d h l t = ap (λ (s : List Row). c ∷ s) (lock-suc j n cs d (le_of_suc-le-suc h) (le_of_suc-le-suc l) t)

  free-suc : (j n : ℕ) (cs : List Row) (d : Row) → j < n → n ≤ length cs → lock (head (get_or cs j d)) ≡ false
      → rest (suc j) n (set cs j (head (get_or cs j d))) ≡ rest j n cs
  unfolding between orthogonalise_n
  free-suc j zero cs d h l t = absurd (not-suc-le-zero h)
  free-suc j (suc n) [] d h l t = absurd (not-suc-le-zero l)
  free-suc zero (suc n) (c ∷ cs) d h l t = rw t
  free-suc (suc j) (suc n) (c ∷ cs) d h l t = ap (λ (s : List Row). c ∷ s) (free-suc j n cs d (le_of_suc-le-suc h) (le_of_suc-le-suc l) t)

  -- a turn of the outer loop at a lock
  pub lock-turn : (j n : ℕ) (cs : List Row) (d p : Row) → j < n → n ≤ length cs → p ≡ head (get_or cs j d) → lock p ≡ true
      → rest (j + 1) n (between (map (reduce p)) (j + 1) n (set cs j p)) ≡ rest j n cs
  lock-turn j n cs d p h l e t = rw (add-one, e) (lock-suc j n cs d h l (rw e at t))

  -- a turn of the outer loop at another row
  pub free-turn : (j n : ℕ) (cs : List Row) (d p : Row) → j < n → n ≤ length cs → p ≡ head (get_or cs j d) → lock p ≡ false
      → rest (j + 1) n (set cs j p) ≡ rest j n cs
  free-turn j n cs d p h l e t = rw (add-one, e) (free-suc j n cs d h l (rw e at t))

  -- no row is left
  pub rest_end : (j n : ℕ) (cs : List Row) → n ≤ j → rest j n cs ≡ cs
  unfolding orthogonalise_n
  rest_end j n cs h = between-end (orthogonalise head lock reduce) refl j n cs h
