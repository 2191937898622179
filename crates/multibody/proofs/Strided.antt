-- Records of w numbers, one after the other in a flat list, and a store of some of one record's numbers. The store keeps the list's length. Of its record it
-- leaves the stored numbers where they were stored, and every other number as it was; every other record it leaves whole, and all that stands past it (`record-past`). Stated once, over the width.
use mathlib.Core.Path.{◌≡◌, refl, ap, ◌∙◌}
use mathlib.Core.Logic.{◌≢◌, ◌⊎◌, inl, inr, ⊎_elim}
use mathlib.Core.Bool.{Bool, true, false, cond}
use mathlib.Core.List.{List, [], ◌∷◌}
use Prim.Native.Nat.{ℕ, zero, suc, ◌+◌, ◌*◌, ◌≤◌, ◌<◌}
use native.Mathlib.Nat.{add-zero, suc-mul, mul-le-mul_right}
use native.Mathlib.Omega.{arith}
use borrow.Author.Tests.{eqb-true, eqb-false}
use lib.Dec.{eqb}
use lib.ListN.{length, get_or, set, drop, length-set}
use lib.Seq.{get_or-set_same, get_or-set_other, drop-set-lt}
use lib.Ieee.{Float, nan}
use Rattle.multibody.specs.Records.{num, puts}

-- ---- places of the list

pub length-puts : (vs s : List Float) (o j : ℕ) → length (puts s o j vs) ≡ length s
length-puts [] s o j = refl
length-puts (v ∷ vs) s o j = length-puts vs (set s (o + j) v) o (suc j) ∙ length-set s (o + j) v

-- place p lies before or past the n places from o + j on
abbrev Outside : ℕ → ℕ → ℕ → ℕ → Type 0
Outside o j n p = (p < o + j) ⊎ (o + j + n ≤ p)

puts-outside : (vs s : List Float) (o j p : ℕ) → Outside o j (length vs) p → get_or (puts s o j vs) p nan ≡ get_or s p nan
puts-outside [] s o j p h = refl
puts-outside (v ∷ vs) s o j p h = puts-outside vs (set s (o + j) v) o (suc j) p (further h) ∙ get_or-set_other s (o + j) p v nan (not-here h)
  where
    further : Outside o j (suc (length vs)) p → Outside o (suc j) (length vs) p
    further (inl l) = inl (omega arith)
    further (inr l) = inr (omega arith)

    not-here : Outside o j (suc (length vs)) p → p ≢ o + j
    not-here (inl l) e = omega arith
    not-here (inr l) e = omega arith

puts-at : (vs s : List Float) (o j c : ℕ) → c < length vs → o + j + length vs ≤ length s → get_or (puts s o j vs) (o + (j + c)) nan ≡ get_or vs c nan
puts-at [] s o j c h room = absurd (omega arith)
puts-at (v ∷ vs) s o j zero h room =
    rw add-zero (puts-outside vs (set s (o + j) v) o (suc j) (o + j) (inl (omega arith)) ∙ get_or-set_same s (o + j) v nan (omega arith))
puts-at (v ∷ vs) s o j (suc c) h room =
    let e : j + suc c ≡ suc j + c = omega arith in
    rw e (puts-at vs (set s (o + j) v) o (suc j) c (omega arith) (rw length-set (omega arith)))

-- ---- records

-- two different numbers, by which is less
apart : (a b : ℕ) → a ≢ b → (a < b) ⊎ (b < a)
apart zero zero ne = absurd (ne refl)
apart zero (suc b) ne = inl (omega arith)
apart (suc a) zero ne = inr (omega arith)
apart (suc a) (suc b) ne = ⊎_elim (λ h. inl (omega arith)) (λ h. inr (omega arith)) (apart a b (λ e. ne (ap suc e)))

-- number c of those stored
pub num-stored : (w : ℕ) (s vs : List Float) (k j c : ℕ) → c < length vs → k * w + j + length vs ≤ length s → num w (puts s (k * w) j vs) k (j + c) ≡ get_or vs c nan
num-stored w s vs k j c h room = puts-at vs s (k * w) j c h room

-- a number of the same record, before or past those stored
pub num-before : (w : ℕ) (s vs : List Float) (k j c : ℕ) → c < j → num w (puts s (k * w) j vs) k c ≡ num w s k c
num-before w s vs k j c h = puts-outside vs s (k * w) j (k * w + c) (inl (omega arith))

pub num-past : (w : ℕ) (s vs : List Float) (k j c : ℕ) → j + length vs ≤ c → num w (puts s (k * w) j vs) k c ≡ num w s k c
num-past w s vs k j c h = puts-outside vs s (k * w) j (k * w + c) (inr (omega arith))

-- one number stored: another one of the same record
pub num-kept : (w : ℕ) (s : List Float) (v : Float) (k j c : ℕ) → c ≢ j → num w (set s (k * w + j) v) k c ≡ num w s k c
num-kept w s v k j c ne = ⊎_elim (λ h. num-before w s (v ∷ []) k j c h) (λ h. num-past w s (v ∷ []) k j c (omega arith)) (apart c j ne)

-- so a record's numbers are as they were, but for the one that is stored
pub num-set : (w : ℕ) (s : List Float) (v : Float) (k j c : ℕ) → k * w + j < length s → num w (set s (k * w + j) v) k c ≡ cond (eqb c j) v (num w s k c)
num-set w s v k j c h = go (eqb c j) refl
  where
    go : (t : Bool) → eqb c j ≡ t → num w (set s (k * w + j) v) k c ≡ cond t v (num w s k c)
    go true e = rw (eqb-true c j e) (get_or-set_same s (k * w + j) v nan h)
    go false e = num-kept w s v k j c (eqb-false c j e)

-- a number of another record
pub num-other : (w : ℕ) (s vs : List Float) (k k' j c : ℕ) → k' ≢ k → j + length vs ≤ w → c < w → num w (puts s (k * w) j vs) k' c ≡ num w s k' c
num-other w s vs k k' j c ne within l = puts-outside vs s (k * w) j (k' * w + c) (⊎_elim (λ h. inl (below h)) (λ h. inr (above h)) (apart k' k ne))
  where
    below : k' < k → k' * w + c < k * w + j
    below h = omega (arith, mul-le-mul_right w h, suc-mul k' w)

    above : k < k' → k * w + j + length vs ≤ k' * w + c
    above h = omega (arith, mul-le-mul_right w h, suc-mul k w)

-- in every record, a number before or past those stored
pub num-beside : (w : ℕ) (s vs : List Float) (k k' j c : ℕ) → j + length vs ≤ w → c < w → (c < j) ⊎ (j + length vs ≤ c) → num w (puts s (k * w) j vs) k' c ≡ num w s k' c
num-beside w s vs k k' j c within l beside = go (eqb k' k) refl
  where
    go : (t : Bool) → eqb k' k ≡ t → num w (puts s (k * w) j vs) k' c ≡ num w s k' c
    go true e = rw (eqb-true k' k e) (⊎_elim (λ h. num-before w s vs k j c h) (λ h. num-past w s vs k j c h) beside)
    go false e = num-other w s vs k k' j c (eqb-false k' k e) within l

-- ---- past the record

puts-past : (vs s : List Float) (o j n : ℕ) → o + j + length vs ≤ n → drop n (puts s o j vs) ≡ drop n s
puts-past [] s o j n h = refl
puts-past (v ∷ vs) s o j n h = puts-past vs (set s (o + j) v) o (suc j) n (omega arith) ∙ drop-set-lt n s (o + j) v (omega arith)

-- what stands from a later record on
pub record-past : (w : ℕ) (s vs : List Float) (k t : ℕ) → length vs ≤ w → k < t → drop (t * w) (puts s (k * w) 0 vs) ≡ drop (t * w) s
record-past w s vs k t l h = puts-past vs s (k * w) 0 (t * w) (omega (arith, mul-le-mul_right w h, suc-mul k w))
