-- What a call changes of records of w numbers: storages of one length whose numbers are the same but where a number may be another (`SameBut`). Each is the same as itself, what changes in two steps changes in one, and a store of numbers
-- that may stand at their places is such a change. Places at which none may stand read as before (`kept`), and rule 6 holds as before where each that may stand passes it (`passes_kept`). Stated once, over the width.
use Prim.Native.Nat.{ℕ, suc, ◌+◌, ◌*◌, ◌≤◌, ◌<◌}
use mathlib.Core.Path.{◌≡◌, refl, ap, ◌∙◌}
use mathlib.Core.Logic.{◌⊎◌, inl, inr, ⊎_elim}
use mathlib.Core.Bool.{true}
use mathlib.Core.List.{List, [], ◌∷◌}
use native.Mathlib.Omega.{arith}
use borrow.Author.Tests.{eqb-true, eqb-false, ltb-true, ltb-false}
use lib.Dec.{eqb, ltb}
use lib.ListN.{length, get_or, set, length-set}
use lib.Seq.{get_or-set_same, set_out}
use lib.Ieee.{Float, nan}
use Rattle.multibody.specs.Records.{num, puts}
use Rattle.multibody.specs.Finite.{Asks, passes, passes_from}
use Rattle.multibody.specs.Finite.Asks.{free}
use Rattle.multibody.proofs.Tests.{by_cases}
use Rattle.multibody.proofs.Strided.{num-kept, num-other}
use Rattle.multibody.proofs.AskLaws.{is_free, free-passes, passes_at, passes-intro}

-- each number is as it was, or one that may stand at its place
pub record SameBut (w : ℕ) (May : ℕ → Float → Type 0) (s s' : List Float) : Type 0 where
  pub size : length s' ≡ length s
  pub numbers : (k c : ℕ) → c < w → (num w s' k c ≡ num w s k c) ⊎ May c (num w s' k c)

-- any number at a free place; at every place a number that passes
abbrev pub Free : List Asks → ℕ → Float → Type 0
Free asks c x = is_free (get_or asks c free) ≡ true

abbrev pub Passing : List Asks → ℕ → Float → Type 0
Passing asks c x = passes (get_or asks c free) x ≡ true

pub free-passing : (asks : List Asks) (c : ℕ) (x : Float) → Free asks c x → Passing asks c x
free-passing asks c x e = free-passes (get_or asks c free) x e

-- numbers that may stand from number j on
abbrev pub EachMay : (ℕ → Float → Type 0) → ℕ → List Float → Type 0
EachMay May j [] = Unit
EachMay May j (v ∷ vs) = May j v × EachMay May (suc j) vs

module _ {w : ℕ} {May : ℕ → Float → Type 0} where
  pub same_self : (s : List Float) → SameBut w May s s
  same_self s = record { size = refl; numbers = λ k c h. inl refl }

  pub same_then : {a b c : List Float} → SameBut w May a b → SameBut w May b c → SameBut w May a c
  same_then {a} {b} {c} s t = record {
    size = t.size ∙ s.size;
    numbers = λ k j h.
        ⊎_elim
        (λ (e : num w c k j ≡ num w b k j). ⊎_elim (λ (d : num w b k j ≡ num w a k j). inl (e ∙ d)) (λ (m : May j (num w b k j)). inr (rw e m)) (s.numbers k j h))
        (λ (m : May j (num w c k j)). inr m) (t.numbers k j h);
  }

  -- number j of record k stored, or past the storage's end nowhere
  pub set_same : (s : List Float) (k j : ℕ) (v : Float) → j < w → May j v → SameBut w May s (set s (k * w + j) v)
  set_same s k j v l m = record {
    size = length-set s (k * w + j) v;
    numbers = λ k' c h. by_cases (eqb k' k)
        (λ t. by_cases (eqb c j) (λ u. rw (eqb-true k' k t, eqb-true c j u) here) (λ u. inl (rw (eqb-true k' k t) (num-kept w s v k j c (eqb-false c j u)))))
        (λ t. inl (num-other w s (v ∷ []) k k' j c (eqb-false k' k t) (omega arith) h));
  }
    where
      here : (num w (set s (k * w + j) v) k j ≡ num w s k j) ⊎ May j (num w (set s (k * w + j) v) k j)
      here = by_cases (ltb (k * w + j) (length s))
          (λ t. inr (rw (get_or-set_same s (k * w + j) v nan (ltb-true (k * w + j) (length s) t)) m))
          (λ t. inl (ap (λ l. num w l k j) (set_out s (k * w + j) v (ltb-false (k * w + j) (length s) t))))

  -- and those from number j on
  pub puts-same : (vs s : List Float) (k j : ℕ) → j + length vs ≤ w → EachMay May j vs → SameBut w May s (puts s (k * w) j vs)
  puts-same [] s k j l m = same_self s
  puts-same (v ∷ vs) s k j l m = same_then (set_same s k j v (omega arith) m.0) (puts-same vs (set s (k * w + j) v) k (suc j) (omega arith) m.1)

  module _ {s s' : List Float} (same : SameBut w May s s') where
    -- a place at which no number may be another
    pub kept : (k c : ℕ) → c < w → (May c (num w s' k c) → ⊥) → num w s' k c ≡ num w s k c
    kept k c h n = ⊎_elim (λ (e : num w s' k c ≡ num w s k c). e) (λ (m : May c (num w s' k c)). absurd (n m)) (same.numbers k c h)

    pub passes_kept : (asks : List Asks) → length asks ≡ w → ((c : ℕ) (x : Float) → c < w → May c x → Passing asks c x) → (k : ℕ) → passes_from asks s (k * w) ≡ true → passes_from asks s' (k * w) ≡ true
    passes_kept asks wide fit k was =
        passes-intro asks s' (k * w)
        (λ c l.
        let h : c < w = omega (arith, l, wide) in
        ⊎_elim (λ (e : num w s' k c ≡ num w s k c). rw e (passes_at asks s (k * w) was c l)) (λ (m : May c (num w s' k c)). fit c (num w s' k c) h m) (same.numbers k c h))
