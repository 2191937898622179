-- Where the rows of a group start, and that they are orthogonalised, can be done in either order (`finalize-warmed`): orthogonalising reads and
-- changes no impulse. For any kind of row of which that is shown of one row and of a pair (`ImpulseUnread`); and what holds of rows that start somewhere
-- whatever their kind: how many they are, the k-th one, what they read of stored impulses and of last ones. Assumes nothing.
use Rattle.std.specs.Prelude.{Option, Some, None}
use Prim.Native.Nat.{ℕ, zero, suc, ◌≤◌, ◌<◌}
use native.Mathlib.Nat.{le_of_suc-le-suc, not-suc-le-zero, suc_inj, suc-ne-zero}
use native.Mathlib.Omega.{arith}
use mathlib.Core.Path.{◌≡◌, refl, ap, sym, ◌∙◌}
use mathlib.Core.Bool.{Bool, true, false, cond}
use mathlib.Core.List.{List, [], ◌∷◌, ◌++◌, map, Memᴰ}
use lib.ListN.{length, get_or, drop}
use lib.Ieee.{Float}
use Rattle.floats.specs.Operators.{bits}
use Rattle.rows.specs.declared.joint_velocity_constraint.WritebackId.{WritebackId}
use Rattle.rows.specs.Groups.{Group, orthogonalise_n, reduce_of, finalize_of}
use Rattle.rows.specs.Warmed.{warmed_of, warmed_all}

-- ---- rows of any kind

module _ {Row : Type 0} (with_impulse : Row → Float → Row) where
  module _ (warm : Option Float) (substep : ℕ) (seed : WritebackId → Float) where
    pub length-warmed_all : (is : List WritebackId) (ps : List Float) (rs : List Row) → length rs ≡ length is → length (warmed_all with_impulse warm substep seed is ps rs) ≡ length is
    unfolding warmed_all
    length-warmed_all [] ps rs e = refl
    length-warmed_all (i ∷ is) ps [] e = absurd (omega (arith, e))
    length-warmed_all (i ∷ is) ps (r ∷ rs) e = ap suc (length-warmed_all is (drop 1 ps) rs (omega (arith, e)))

    pub get_or-warmed_all : (is : List WritebackId) (ps : List Float) (rs : List Row) (k : ℕ) (i : WritebackId) (p : Float) (r d : Row)
        → k < length is → k < length ps → k < length rs
        → get_or (warmed_all with_impulse warm substep seed is ps rs) k d ≡ warmed_of with_impulse warm substep (seed (get_or is k i)) (get_or ps k p) (get_or rs k r)
    unfolding warmed_all
    get_or-warmed_all [] ps rs k i p r d f g h = absurd (not-suc-le-zero f)
    get_or-warmed_all (j ∷ is) [] rs k i p r d f g h = absurd (not-suc-le-zero g)
    get_or-warmed_all (j ∷ is) (q ∷ ps) [] k i p r d f g h = absurd (not-suc-le-zero h)
    get_or-warmed_all (j ∷ is) (q ∷ ps) (s ∷ rs) zero i p r d f g h = refl
    get_or-warmed_all (j ∷ is) (q ∷ ps) (s ∷ rs) (suc k) i p r d f g h =
        get_or-warmed_all is ps rs k i p r d (le_of_suc-le-suc f) (le_of_suc-le-suc g) (le_of_suc-le-suc h)

    -- two groups' rows, one after the other
    pub warmed-append : (is js : List WritebackId) (ps : List Float) (cs ds : List Row) → length cs ≡ length is → length is ≤ length ps
        → warmed_all with_impulse warm substep seed (is ++ js) ps (cs ++ ds)
        ≡ warmed_all with_impulse warm substep seed is ps cs ++ warmed_all with_impulse warm substep seed js (drop (length is) ps) ds
    unfolding warmed_all
    warmed-append [] js ps [] ds e h = refl
    warmed-append [] js ps (c ∷ cs) ds e h = absurd (omega (arith, e))
    warmed-append (i ∷ is) js [] cs ds e h = absurd (not-suc-le-zero h)
    warmed-append (i ∷ is) js (p ∷ ps) [] ds e h = absurd (omega (arith, e))
    warmed-append (i ∷ is) js (p ∷ ps) (c ∷ cs) ds e h =
        ap (λ t. warmed_of with_impulse warm substep (seed i) p c ∷ t) (warmed-append is js ps cs ds (omega (arith, e)) (le_of_suc-le-suc h))

  -- ---- what they read

  -- two choices of seeds that agree at each of these ids
  pub warmed_all-seeds : (warm : Option Float) (substep : ℕ) (a b : WritebackId → Float) (is : List WritebackId) (ps : List Float) (rs : List Row)
      → ((i : WritebackId) → Memᴰ i is → a i ≡ b i) → warmed_all with_impulse warm substep a is ps rs ≡ warmed_all with_impulse warm substep b is ps rs
  unfolding warmed_all
  warmed_all-seeds warm substep a b [] ps rs h = refl
  warmed_all-seeds warm substep a b (i ∷ is) ps [] h = refl
  warmed_all-seeds warm substep a b (i ∷ is) ps (r ∷ rs) h =
      rw (
        h i (Memᴰ.head refl),
        warmed_all-seeds warm substep a b is (drop 1 ps) rs (λ j m. h j (Memᴰ.tail m)),
      )

  later-row : (warm : Option Float) (substep : ℕ) (seed₁ seed₂ prev : Float) (row : Row)
      → warmed_of with_impulse warm (suc substep) seed₁ prev row ≡ warmed_of with_impulse warm (suc substep) seed₂ prev row
  unfolding warmed_of
  later-row None substep seed₁ seed₂ prev row = refl
  later-row (Some coeff) substep seed₁ seed₂ prev row = refl

  -- after substep 0, whatever the seeds
  pub warmed_all-later : (warm : Option Float) (substep : ℕ) (a b : WritebackId → Float) (is : List WritebackId) (ps : List Float) (rs : List Row)
      → warmed_all with_impulse warm (suc substep) a is ps rs ≡ warmed_all with_impulse warm (suc substep) b is ps rs
  unfolding warmed_all
  warmed_all-later warm substep a b [] ps rs = refl
  warmed_all-later warm substep a b (i ∷ is) ps [] = refl
  warmed_all-later warm substep a b (i ∷ is) ps (r ∷ rs) =
      rw (later-row warm substep (a i) (b i) (get_or ps 0 (bits 0)) r, warmed_all-later warm substep a b is (drop 1 ps) rs)

  first-row : (warm : Option Float) (seed prev₁ prev₂ : Float) (row : Row) → warmed_of with_impulse warm 0 seed prev₁ row ≡ warmed_of with_impulse warm 0 seed prev₂ row
  unfolding warmed_of
  first-row None seed prev₁ prev₂ row = refl
  first-row (Some coeff) seed prev₁ prev₂ row = refl

  -- in substep 0, whatever the last impulses
  pub warmed_all-first : (warm : Option Float) (seed : WritebackId → Float) (is : List WritebackId) (ps qs : List Float) (rs : List Row)
      → warmed_all with_impulse warm 0 seed is ps rs ≡ warmed_all with_impulse warm 0 seed is qs rs
  unfolding warmed_all
  warmed_all-first warm seed [] ps qs rs = refl
  warmed_all-first warm seed (i ∷ is) ps qs [] = refl
  warmed_all-first warm seed (i ∷ is) ps qs (r ∷ rs) =
      rw (
        first-row warm (seed i) (get_or ps 0 (bits 0)) (get_or qs 0 (bits 0)) r,
        warmed_all-first warm seed is (drop 1 ps) (drop 1 qs) rs,
      )

  -- with no warm coefficient
  pub warmed_all-cold : (substep : ℕ) (seed : WritebackId → Float) (is : List WritebackId) (ps : List Float) (rs : List Row) → length rs ≡ length is
      → warmed_all with_impulse None substep seed is ps rs ≡ rs
  unfolding warmed_all warmed_of
  warmed_all-cold substep seed [] ps [] e = refl
  warmed_all-cold substep seed [] ps (r ∷ rs) e = absurd (suc-ne-zero (length rs) e)
  warmed_all-cold substep seed (i ∷ is) ps [] e = absurd (suc-ne-zero (length is) (sym e))
  warmed_all-cold substep seed (i ∷ is) ps (r ∷ rs) e = ap (λ t. r ∷ t) (warmed_all-cold substep seed is (drop 1 ps) rs (suc_inj e))

-- ---- rows that are orthogonalised

-- orthogonalising reads and changes no impulse: neither the head step, the lock test and the sum of inverse masses of a row, nor its part in a pair as the
-- lock (`by`) and as the later row (`pair`)
pub record ImpulseUnread (group : Group) (with_impulse : group.Row → Float → group.Row) : Type 0 where
  pub sum : (c : group.Row) (x : Float) → group.im_sum_of (with_impulse c x) ≡ group.im_sum_of c
  pub head : (im : group.Masses) (c : group.Row) (x : Float) → group.head_of im (with_impulse c x) ≡ with_impulse (group.head_of im c) x
  pub lock : (c : group.Row) (x : Float) → group.is_lock (with_impulse c x) ≡ group.is_lock c
  pub by : (im : group.Masses) (c : group.Row) (x : Float) → reduce_of group im (with_impulse c x) ≡ reduce_of group im c
  pub pair : (im : group.Masses) (d c : group.Row) (x : Float) → reduce_of group im d (with_impulse c x) ≡ with_impulse (reduce_of group im d c) x

module _ (group : Group) (with_impulse : group.Row → Float → group.Row) (unread : ImpulseUnread group with_impulse) where
  open group use {Row, Masses, im_sum_of, head_of, is_lock}

  abbrev reduce : Masses → Row → Row → Row
  reduce = reduce_of group

  abbrev warmed : Option Float → ℕ → Float → Float → Row → Row
  warmed = warmed_of with_impulse

  sum-warmed : (w : Option Float) (s : ℕ) (x p : Float) (c : Row) → im_sum_of (warmed w s x p c) ≡ im_sum_of c
  unfolding warmed_of
  sum-warmed None s x p c = refl
  sum-warmed (Some k) zero x p c = unread.sum c _
  sum-warmed (Some k) (suc s) x p c = unread.sum c _

  head-warmed : (im : Masses) (w : Option Float) (s : ℕ) (x p : Float) (c : Row) → head_of im (warmed w s x p c) ≡ warmed w s x p (head_of im c)
  unfolding warmed_of
  head-warmed im None s x p c = refl
  head-warmed im (Some k) zero x p c = unread.head im c _
  head-warmed im (Some k) (suc s) x p c = unread.head im c _

  lock-warmed : (w : Option Float) (s : ℕ) (x p : Float) (c : Row) → is_lock (warmed w s x p c) ≡ is_lock c
  unfolding warmed_of
  lock-warmed None s x p c = refl
  lock-warmed (Some k) zero x p c = unread.lock c _
  lock-warmed (Some k) (suc s) x p c = unread.lock c _

  by-warmed : (im : Masses) (w : Option Float) (s : ℕ) (x p : Float) (c : Row) → reduce im (warmed w s x p c) ≡ reduce im c
  unfolding warmed_of
  by-warmed im None s x p c = refl
  by-warmed im (Some k) zero x p c = unread.by im c _
  by-warmed im (Some k) (suc s) x p c = unread.by im c _

  pair-warmed : (im : Masses) (w : Option Float) (s : ℕ) (x p : Float) (d c : Row) → reduce im d (warmed w s x p c) ≡ warmed w s x p (reduce im d c)
  unfolding warmed_of
  pair-warmed im None s x p d c = refl
  pair-warmed im (Some k) zero x p d c = unread.pair im d c _
  pair-warmed im (Some k) (suc s) x p d c = unread.pair im d c _

  module _ (warm : Option Float) (substep : ℕ) (seed : WritebackId → Float) where
    abbrev all : List WritebackId → List Float → List Row → List Row
    all = warmed_all with_impulse warm substep seed

    map-warmed : (im : Masses) (d : Row) (is : List WritebackId) (ps : List Float) (cs : List Row) → map (reduce im d) (all is ps cs) ≡ all is ps (map (reduce im d) cs)
    unfolding warmed_all
    map-warmed im d [] ps cs = refl
    map-warmed im d (i ∷ is) ps [] = refl
    map-warmed im d (i ∷ is) ps (c ∷ cs) = rw (pair-warmed im warm substep (seed i) (get_or ps 0 (bits 0)) d c, map-warmed im d is (drop 1 ps) cs)

    -- the rows after a row, reduced by it or not
    rest-warmed : (im : Masses) (t : Bool) (d : Row) (is : List WritebackId) (ps : List Float) (cs : List Row)
        → cond t (map (reduce im d) (all is ps cs)) (all is ps cs) ≡ all is ps (cond t (map (reduce im d) cs) cs)
    rest-warmed im true d is ps cs = map-warmed im d is ps cs
    rest-warmed im false d is ps cs = refl

    orthogonalise-warmed : (im : Masses) (n : ℕ) (is : List WritebackId) (ps : List Float) (cs : List Row)
        → orthogonalise_n (head_of im) is_lock (reduce im) n (all is ps cs) ≡ all is ps (orthogonalise_n (head_of im) is_lock (reduce im) n cs)
    unfolding warmed_all orthogonalise_n
    orthogonalise-warmed im zero is ps cs = refl
    orthogonalise-warmed im (suc n) [] ps [] = refl
    orthogonalise-warmed im (suc n) [] ps (c ∷ cs) = refl
    orthogonalise-warmed im (suc n) (i ∷ is) ps [] = refl
    orthogonalise-warmed im (suc n) (i ∷ is) ps (c ∷ cs) =
        let p : Float = get_or ps 0 (bits 0) in
        let d : Row = head_of im c in
        rw (
          head-warmed im warm substep (seed i) p c,
          lock-warmed warm substep (seed i) p d,
          by-warmed im warm substep (seed i) p d,
          rest-warmed im (is_lock d) d is (drop 1 ps) cs,
          orthogonalise-warmed im n is (drop 1 ps) (cond (is_lock d) (map (reduce im d) cs) cs),
        )

    pub finalize-warmed : (is : List WritebackId) (ps : List Float) (cs : List Row) → length cs ≡ length is → finalize_of group (all is ps cs) ≡ all is ps (finalize_of group cs)
    unfolding warmed_all finalize_of
    finalize-warmed [] ps [] e = refl
    finalize-warmed [] ps (c ∷ cs) e = absurd (omega (arith, e))
    finalize-warmed (i ∷ is) ps [] e = absurd (omega (arith, e))
    finalize-warmed (i ∷ is) ps (c ∷ cs) e =
        let im : Masses = im_sum_of c in
        let p : Float = get_or ps 0 (bits 0) in
        let same : im_sum_of (warmed warm substep (seed i) p c) ≡ im = sum-warmed warm substep (seed i) p c in
        let count : length (all is (drop 1 ps) cs) ≡ length cs = omega (arith, length-warmed_all with_impulse warm substep seed is (drop 1 ps) cs (omega (arith, e)), e) in
        ap (λ (v : Masses). orthogonalise_n (head_of v) is_lock (reduce v) (length (all (i ∷ is) ps (c ∷ cs))) (all (i ∷ is) ps (c ∷ cs))) same
        ∙ ap (λ (n : ℕ). orthogonalise_n (head_of im) is_lock (reduce im) (suc n) (all (i ∷ is) ps (c ∷ cs))) count
        ∙ orthogonalise-warmed im (suc (length cs)) (i ∷ is) ps (c ∷ cs)
