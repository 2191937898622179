-- Lists put one after the other (`flat_map`): of two lists, of the first elements of a list, and entries where all parts are equally long.
use Prim.Native.Nat.{ℕ, zero, suc, ◌+◌, ◌*◌, ◌<◌}
use mathlib.Core.Path.{◌≡◌, refl, sym, ap, ◌∙◌}
use mathlib.Core.List.{List, [], ◌∷◌, ◌++◌, append-nil, append_assoc, flat_map}
use native.Mathlib.Numerals.{add-one}
use native.Mathlib.Omega.{arith}
use lib.ListN.{length, get_or, take, length-append, get_or-append}
use lib.Seq.{take-suc, get_or-append-add}

module _ {A B : Type 0} (f : A → List B) where
  pub flat_append : (a b : List A) → flat_map f (a ++ b) ≡ flat_map f a ++ flat_map f b
  unfolding flat_map
  flat_append [] b = refl
  flat_append (x ∷ a) b = rw (flat_append a b) (sym (append_assoc (f x) (flat_map f a) (flat_map f b)))

  pub flat-none : (l : List A) → flat_map f (take 0 l) ≡ []
  unfolding flat_map
  flat-none l = refl

  -- one element more
  pub flat-turn : (l : List A) (k : ℕ) (d : A) → k < length l → flat_map f (take (k + 1) l) ≡ flat_map f (take k l) ++ f (get_or l k d)
  unfolding flat_map
  flat-turn l k d h = rw (add-one, take-suc l k d) (flat_append (take k l) (get_or l k d ∷ []) ∙ ap (λ (t : List B). flat_map f (take k l) ++ t) (append-nil (f (get_or l k d))))

  -- each part is w long
  module _ (w : ℕ) (same : (x : A) → length (f x) ≡ w) where
    pub flat-length : (l : List A) → length (flat_map f l) ≡ length l * w
    unfolding flat_map
    flat-length [] = omega arith
    flat-length (x ∷ l) = omega (arith, length-append (f x) (flat_map f l), same x, flat-length l)

    pub flat-at : (l : List A) (q r : ℕ) (d : A) (e : B) → q < length l → r < w → get_or (flat_map f l) (q * w + r) e ≡ get_or (f (get_or l q d)) r e
    unfolding flat_map
    flat-at [] q r d e h g = absurd (omega arith)
    flat-at (x ∷ l) zero r d e h g =
        let z : 0 * w + r ≡ r = omega arith in
        rw z (get_or-append (f x) (flat_map f l) e r (omega (arith, same x)))
    flat-at (x ∷ l) (suc q) r d e h g =
        let z : suc q * w + r ≡ length (f x) + (q * w + r) = omega (arith, same x) in
        rw z (get_or-append-add (f x) (flat_map f l) (q * w + r) e ∙ flat-at l q r d e (omega arith) g)
