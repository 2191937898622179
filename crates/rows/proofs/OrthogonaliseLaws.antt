-- What orthogonalising does to a list of rows of any kind: as many rows come out as went in; the first row's result is its head step, whatever
-- follows it; no row's result depends on the rows after it (`take-orthogonalise`); and what head step and reducing keep of a row, orthogonalising keeps of
-- all, be it a value (`kept-orthogonalise`) or a fact (`every-orthogonalise`). Assumes nothing.
use mathlib.Core.Path.{◌≡◌, refl, ◌∙◌, ap}
use Prim.Native.Nat.{ℕ, zero, suc}
use native.Mathlib.Nat.{suc_inj, suc-ne-zero}
use mathlib.Core.Bool.{Bool, true, false, cond}
use mathlib.Core.List.{List, [], ◌∷◌, map}
use lib.ListN.{length, take, length-map}
use Rattle.rows.specs.Groups.{orthogonalise_n, orthogonalise}

module _ {Row : Type 0} where
  take-map : (f : Row → Row) (k : ℕ) (cs : List Row) → take k (map f cs) ≡ map f (take k cs)
  take-map f zero cs = refl
  take-map f (suc k) [] = refl
  take-map f (suc k) (c ∷ cs) = ap (λ (t : List Row). f c ∷ t) (take-map f k cs)

  length-reduced : (f : Row → Row) (b : Bool) (cs : List Row) → length (cond b (map f cs) cs) ≡ length cs
  length-reduced f true cs = length-map cs f
  length-reduced f false cs = refl

  take-reduced : (f : Row → Row) (b : Bool) (k : ℕ) (cs : List Row) → take k (cond b (map f cs) cs) ≡ cond b (map f (take k cs)) (take k cs)
  take-reduced f true k cs = take-map f k cs
  take-reduced f false k cs = refl

module _ {Row : Type 0} (head : Row → Row) (lock : Row → Bool) (reduce : Row → Row → Row) where
  -- the rows after c, once c has had its turn
  reduced : Row → List Row → List Row
  reduced c cs = cond (lock (head c)) (map (reduce (head c)) cs) cs

  length-N : (n : ℕ) (cs : List Row) → length (orthogonalise_n head lock reduce n cs) ≡ length cs
  unfolding orthogonalise_n reduced
  length-N zero cs = refl
  length-N (suc n) [] = refl
  length-N (suc n) (c ∷ cs) = ap suc (length-N n (reduced c cs) ∙ length-reduced (reduce (head c)) (lock (head c)) cs)

  pub length-orthogonalise : (cs : List Row) → length (orthogonalise head lock reduce cs) ≡ length cs
  length-orthogonalise cs = length-N (length cs) cs

  pub first-row : (c : Row) (cs : List Row) → take 1 (orthogonalise head lock reduce (c ∷ cs)) ≡ head c ∷ []
  unfolding orthogonalise_n
  first-row c cs = refl

  take-N : (n k : ℕ) (cs : List Row) → length cs ≡ n → take k (orthogonalise_n head lock reduce n cs) ≡ orthogonalise head lock reduce (take k cs)
  unfolding orthogonalise_n reduced
  take-N n zero cs e = refl
  take-N zero (suc k) [] e = refl
  take-N (suc n) (suc k) [] e = refl
  take-N zero (suc k) (c ∷ cs) e = absurd (suc-ne-zero (length cs) e)
  take-N (suc n) (suc k) (c ∷ cs) e =
      let f : Row → Row = reduce (head c) in
      let b : Bool = lock (head c) in
      ap (λ (t : List Row). head c ∷ t)
      (take-N n k (reduced c cs) (length-reduced f b cs ∙ suc_inj e)
      ∙ rw (take-reduced f b k cs, length-reduced f b (take k cs)))

  pub take-orthogonalise : (k : ℕ) (cs : List Row) → take k (orthogonalise head lock reduce cs) ≡ orthogonalise head lock reduce (take k cs)
  take-orthogonalise k cs = take-N (length cs) k cs refl

-- ---- what is kept of each row

module _ {Row B : Type 0} (g : Row → B) where
  map-kept : (f : Row → Row) → ((c : Row) → g (f c) ≡ g c) → (cs : List Row) → map g (map f cs) ≡ map g cs
  map-kept f h [] = refl
  map-kept f h (c ∷ cs) = rw (h c, map-kept f h cs)

  reduced-kept : (f : Row → Row) → ((c : Row) → g (f c) ≡ g c) → (b : Bool) (cs : List Row) → map g (cond b (map f cs) cs) ≡ map g cs
  reduced-kept f h true cs = map-kept f h cs
  reduced-kept f h false cs = refl

  module _ (head : Row → Row) (lock : Row → Bool) (reduce : Row → Row → Row) (heads : (c : Row) → g (head c) ≡ g c) (reduces : (p c : Row) → g (reduce p c) ≡ g c) where
    kept-N : (n : ℕ) (cs : List Row) → map g (orthogonalise_n head lock reduce n cs) ≡ map g cs
    unfolding orthogonalise_n
    kept-N zero cs = refl
    kept-N (suc n) [] = refl
    kept-N (suc n) (c ∷ cs) =
        let rest : List Row = cond (lock (head c)) (map (reduce (head c)) cs) cs in
        ap (λ t. t ∷ map g (orthogonalise_n head lock reduce n rest)) (heads c)
        ∙ ap (λ t. g c ∷ t) (kept-N n rest ∙ reduced-kept (reduce (head c)) (reduces (head c)) (lock (head c)) cs)

    pub kept-orthogonalise : (cs : List Row) → map g (orthogonalise head lock reduce cs) ≡ map g cs
    kept-orthogonalise cs = kept-N (length cs) cs

-- a fact that holds of every row
abbrev pub Every : {Row : Type 0} → (Row → Type 0) → List Row → Type 0
Every P [] = Unit
Every P (r ∷ rs) = P r × Every P rs

module _ {Row : Type 0} (P : Row → Type 0) where
  every_map : (f : Row → Row) → ((c : Row) → P c → P (f c)) → (cs : List Row) → Every P cs → Every P (map f cs)
  every_map f h [] e = tt
  every_map f h (c ∷ cs) e = (h c e.0, every_map f h cs e.1)

  every-reduced : (f : Row → Row) → ((c : Row) → P c → P (f c)) → (b : Bool) (cs : List Row) → Every P cs → Every P (cond b (map f cs) cs)
  every-reduced f h true cs e = every_map f h cs e
  every-reduced f h false cs e = e

  module _ (head : Row → Row) (lock : Row → Bool) (reduce : Row → Row → Row) (heads : (c : Row) → P c → P (head c)) (reduces : (p c : Row) → P c → P (reduce p c)) where
    every-N : (n : ℕ) (cs : List Row) → Every P cs → Every P (orthogonalise_n head lock reduce n cs)
    unfolding orthogonalise_n
    every-N zero cs e = e
    every-N (suc n) [] e = tt
    every-N (suc n) (c ∷ cs) e =
        (heads c e.0, every-N n (cond (lock (head c)) (map (reduce (head c)) cs) cs) (every-reduced (reduce (head c)) (reduces (head c)) (lock (head c)) cs e.1))

    pub every-orthogonalise : (cs : List Row) → Every P cs → Every P (orthogonalise head lock reduce cs)
    every-orthogonalise cs e = every-N (length cs) cs e
