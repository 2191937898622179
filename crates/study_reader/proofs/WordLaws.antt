-- The turns of the loops over bytes, at position i of a text, and the parts of a text that words are.
use mathlib.Core.Path.{◌≡◌, refl, sym, ap, ◌∙◌}
use mathlib.Core.Bool.{Bool, true, false, cond, not, ◌&&◌, ◌||◌}
use mathlib.Core.List.{List, [], ◌∷◌}
use mathlib.Core.Option.{none}
use Rattle.std.specs.Prelude.{Some, None}
use Prim.Native.Nat.{ℕ, zero, suc, max, ◌+◌, ◌-◌, ◌*◌, ◌≤◌, ◌<◌}
use native.Mathlib.Nat.{sub-zero}
use native.Mathlib.Numerals.{add-one}
use native.Mathlib.Omega.{arith}
use borrow.Author.Tests.{eq-eqb, ne_eqb, le-leb, lt-leb, ltb-true, eqb-true, eqb-false}
use Rattle.std.specs.List.{list_any}
use Rattle.std.proofs.lemmas.Bool.{ltb-false}
use Rattle.std.proofs.Math.Nat.{le-max_left, le-max_right, max-le}
use lib.Dec.{eqb, leb, ltb}
use lib.Pointwise.{pointwise}
use lib.ListN.{length, drop, take, get_or, drop_of_length-le, length-drop}
use lib.Seq.{drop-cons, take_all, take-nil}
use Rattle.texts.specs.Digits.{is_digit}
use Rattle.motor_table.specs.WholeNumber.{digits_after}
use Rattle.texts.specs.Ascii.{LF}
use Rattle.study_reader.specs.Words.{has, same_bytes, run_of, line_count, bytes_of, feeds_in, column_after, whole_up_to, whole_number}
use Rattle.study_reader.specs.declared.words.Word.{Word}

-- a test that a Bool holds, turned round
pub open-test : (t : Bool) → t ≡ false → not t ≡ true
open-test t e = ap not e

pub shut-test : (t : Bool) → t ≡ true → not t ≡ false
shut-test t e = ap not e

-- ---- the tests of a byte

module _ (a : ℕ) (rest : List ℕ) (b : ℕ) where
  pub has_first : b ≡ a → true ≡ has (a ∷ rest) b
  unfolding has
  has_first e = sym (ap (λ (t : Bool). t || has rest b) (eq-eqb b a e))

  pub has-later : (b ≡ a → ⊥) → has rest b ≡ has (a ∷ rest) b
  unfolding has
  has-later e = sym (ap (λ (t : Bool). t || has rest b) (ne_eqb b a e))

pub has_last : (a b : ℕ) → eqb b a ≡ has (a ∷ []) b
unfolding has
has_last a b = go (eqb b a)
  where
    go : (t : Bool) → t ≡ t || false
    go true = refl
    go false = refl

pub or_left : (t u : Bool) → t ≡ true → true ≡ t || u
or_left t u e = sym (ap (λ (x : Bool). x || u) e)

pub or_right : (t u : Bool) → t ≡ false → u ≡ t || u
or_right t u e = sym (ap (λ (x : Bool). x || u) e)

-- ---- a load that is in range reads no default

pub get_d_default : {A : Type 0} (l : List A) (n : ℕ) (d e : A) → n < length l → get_or l n d ≡ get_or l n e
get_d_default [] n d e h = absurd (omega arith)
get_d_default (x ∷ l) zero d e h = refl
get_d_default (x ∷ l) (suc n) d e h = get_d_default l n d e (omega arith)

-- ---- bytes of which a test is true

module _ (test : ℕ → Bool) (s : List ℕ) (i : ℕ) where
  pub run_more : i < length s → test (get_or s i 0) ≡ true → i + 1 + run_of test (drop (i + 1) s) ≡ i + run_of test (drop i s)
  unfolding run_of
  run_more below e =
      sym
      (ap (λ (l : List ℕ). i + run_of test l) (drop-cons s i 0 below)
      ∙ ap (λ (t : Bool). i + cond t (suc (run_of test (drop (suc i) s))) 0) e
      ∙ ap (λ (k : ℕ). i + suc (run_of test (drop k s))) (sym (add-one i))
      ∙ omega arith)

  pub run-stop : i < length s → test (get_or s i 0) ≡ false → i ≡ i + run_of test (drop i s)
  unfolding run_of
  run-stop below e =
      sym
      (ap (λ (l : List ℕ). i + run_of test l) (drop-cons s i 0 below)
      ∙ ap (λ (t : Bool). i + cond t (suc (run_of test (drop (suc i) s))) 0) e
      ∙ omega arith)

  pub run_end : length s ≤ i → i ≡ i + run_of test (drop i s)
  unfolding run_of
  run_end h = sym (ap (λ (l : List ℕ). i + run_of test l) (drop_of_length-le s h) ∙ omega arith)

-- ---- the end of a line

module _ (s : List ℕ) (i : ℕ) where
  pub line-more : i < length s → (get_or s i 0 ≡ LF → ⊥) → i + 1 + line_count (drop (i + 1) s) ≡ i + line_count (drop i s)
  unfolding line_count
  line-more below e =
      sym
      (ap (λ (l : List ℕ). i + line_count l) (drop-cons s i 0 below)
      ∙ ap (λ (t : Bool). i + cond t 1 (suc (line_count (drop (suc i) s)))) (ne_eqb (get_or s i 0) LF e)
      ∙ ap (λ (k : ℕ). i + suc (line_count (drop k s))) (sym (add-one i))
      ∙ omega arith)

  pub line-stop : i < length s → get_or s i 0 ≡ LF → i + 1 ≡ i + line_count (drop i s)
  unfolding line_count
  line-stop below e =
      sym
      (ap (λ (l : List ℕ). i + line_count l) (drop-cons s i 0 below)
      ∙ ap (λ (t : Bool). i + cond t 1 (suc (line_count (drop (suc i) s)))) (eq-eqb (get_or s i 0) LF e))

  pub line-end : length s ≤ i → i ≡ i + line_count (drop i s)
  unfolding line_count
  line-end h = sym (ap (λ (l : List ℕ). i + line_count l) (drop_of_length-le s h) ∙ omega arith)

-- where a search from a place on comes to that finds nothing: the end of the text, or the place itself where that is past the end
module _ (s : List ℕ) (f : ℕ → ℕ) (stays : (k : ℕ) → length s ≤ k → k ≡ f k) (from at m : ℕ) (q : m ≡ max from (length s)) (inside : from ≤ length s → at ≤ length s) (past : length s ≤ at) (e : f at ≡ f from) where
  pub past-end : m ≡ f from
  past-end = go (ltb (length s) from) refl
    where
      go : (t : Bool) → ltb (length s) from ≡ t → m ≡ f from
      go true t =
          let p : length s < from = ltb-true (length s) from t in
          let u : max from (length s) ≤ from = max-le (omega arith) (omega arith) in
          let k : m ≡ from = omega (arith, q, u, le-max_left from (length s)) in k ∙ stays from (omega arith)
      go false t =
          let p : from ≤ length s = ltb-false (length s) from t in
          let i : at ≤ length s = inside p in
          let u : max from (length s) ≤ length s = max-le p (omega arith) in
          let k : m ≡ at = omega (arith, q, u, i, le-max_right from (length s)) in k ∙ stays at past ∙ e

-- ---- a byte that a text has

eqb-turned : (a b : ℕ) → eqb a b ≡ eqb b a
eqb-turned a b = go (eqb a b) refl
  where
    go : (t : Bool) → eqb a b ≡ t → t ≡ eqb b a
    go true e = sym (eq-eqb b a (sym (eqb-true a b e)))
    go false e = sym (ne_eqb b a (λ q. eqb-false a b e (sym q)))

pub any-has : (s : List ℕ) (b : ℕ) → list_any (λ y. eqb y b) s ≡ has s b
unfolding has
any-has [] b = refl
any-has (a ∷ rest) b = ap (λ (t : Bool). t || list_any (λ y. eqb y b) rest) (eqb-turned a b) ∙ ap (λ (t : Bool). eqb b a || t) (any-has rest b)

-- ---- two texts

pub same_pointwise : (a b : List ℕ) → pointwise eqb a b ≡ same_bytes a b
unfolding same_bytes
same_pointwise [] [] = refl
same_pointwise [] (y ∷ ys) = refl
same_pointwise (x ∷ xs) [] = refl
same_pointwise (x ∷ xs) (y ∷ ys) = ap (λ (t : Bool). eqb x y && t) (same_pointwise xs ys)

-- ---- lines and columns

module _ (s : List ℕ) (i v : ℕ) where
  pub feed-here : i < length s → get_or s i 0 ≡ LF → v + 1 + feeds_in (drop (i + 1) s) ≡ v + feeds_in (drop i s)
  unfolding feeds_in
  feed-here below e =
      sym
      (ap (λ (l : List ℕ). v + feeds_in l) (drop-cons s i 0 below)
      ∙ ap (λ (t : Bool). v + cond t (suc (feeds_in (drop (suc i) s))) (feeds_in (drop (suc i) s))) (eq-eqb (get_or s i 0) LF e)
      ∙ ap (λ (k : ℕ). v + suc (feeds_in (drop k s))) (sym (add-one i))
      ∙ omega arith)

  pub feed-next : i < length s → (get_or s i 0 ≡ LF → ⊥) → v + feeds_in (drop (i + 1) s) ≡ v + feeds_in (drop i s)
  unfolding feeds_in
  feed-next below e =
      sym
      (ap (λ (l : List ℕ). v + feeds_in l) (drop-cons s i 0 below)
      ∙ ap (λ (t : Bool). v + cond t (suc (feeds_in (drop (suc i) s))) (feeds_in (drop (suc i) s))) (ne_eqb (get_or s i 0) LF e)
      ∙ ap (λ (k : ℕ). v + feeds_in (drop k s)) (sym (add-one i)))

  pub feed-end : length s ≤ i → v ≡ v + feeds_in (drop i s)
  unfolding feeds_in
  feed-end h = sym (ap (λ (l : List ℕ). v + feeds_in l) (drop_of_length-le s h) ∙ omega arith)

  pub column-feed : i < length s → get_or s i 0 ≡ LF → column_after 1 (drop (i + 1) s) ≡ column_after v (drop i s)
  unfolding column_after
  column-feed below e =
      sym
      (ap (λ (l : List ℕ). column_after v l) (drop-cons s i 0 below)
      ∙ ap (λ (t : Bool). column_after (cond t 1 (v + 1)) (drop (suc i) s)) (eq-eqb (get_or s i 0) LF e)
      ∙ ap (λ (k : ℕ). column_after 1 (drop k s)) (sym (add-one i)))

  pub column-next : i < length s → (get_or s i 0 ≡ LF → ⊥) → column_after (v + 1) (drop (i + 1) s) ≡ column_after v (drop i s)
  unfolding column_after
  column-next below e =
      sym
      (ap (λ (l : List ℕ). column_after v l) (drop-cons s i 0 below)
      ∙ ap (λ (t : Bool). column_after (cond t 1 (v + 1)) (drop (suc i) s)) (ne_eqb (get_or s i 0) LF e)
      ∙ ap (λ (k : ℕ). column_after (v + 1) (drop k s)) (sym (add-one i)))

  pub column-end : length s ≤ i → v ≡ column_after v (drop i s)
  unfolding column_after
  column-end h = sym (ap (λ (l : List ℕ). column_after v l) (drop_of_length-le s h))

-- ---- whole numbers

-- a number past the largest is none, whatever follows
whole-past : (v : ℕ) (bs : List ℕ) → 4294967289 < v → whole_up_to (digits_after v bs) ≡ None
unfolding whole_up_to digits_after
whole-past v [] h = ap (λ (t : Bool). cond t (Some v) None) (lt-leb v 4294967289 h)
whole-past v (b ∷ bs) h = go (is_digit b) (whole-past (v * 10 + (b - 0x30)) bs (omega arith))
  where
    go : (t : Bool) → whole_up_to (digits_after (v * 10 + (b - 0x30)) bs) ≡ None → whole_up_to (cond t (digits_after (v * 10 + (b - 0x30)) bs) none) ≡ None
    go true e = e
    go false e = refl

pub whole-empty : (s : List ℕ) → length s ≡ 0 → None ≡ whole_number s
unfolding whole_number
whole-empty [] h = refl
whole-empty (b ∷ bs) h = absurd (omega arith)

pub whole-some : (s : List ℕ) → 0 < length s → whole_up_to (digits_after 0 s) ≡ whole_number s
unfolding whole_number
whole-some [] h = absurd (omega arith)
whole-some (b ∷ bs) h = refl

module _ (s : List ℕ) (i n : ℕ) where
  whole-step : i < length s → whole_up_to (digits_after n (drop i s)) ≡ whole_up_to (cond (is_digit (get_or s i 0)) (digits_after (n * 10 + (get_or s i 0 - 0x30)) (drop (i + 1) s)) none)
  unfolding digits_after
  whole-step below =
      ap (λ (l : List ℕ). whole_up_to (digits_after n l)) (drop-cons s i 0 below)
      ∙ ap (λ (k : ℕ). whole_up_to (cond (is_digit (get_or s i 0)) (digits_after (n * 10 + (get_or s i 0 - 0x30)) (drop k s)) none)) (sym (add-one i))

  no_digit : i < length s → is_digit (get_or s i 0) ≡ false → None ≡ whole_up_to (digits_after n (drop i s))
  unfolding whole_up_to
  no_digit below e =
      sym (whole-step below ∙ ap (λ (t : Bool). whole_up_to (cond t (digits_after (n * 10 + (get_or s i 0 - 0x30)) (drop (i + 1) s)) none)) e)

  digit : i < length s → is_digit (get_or s i 0) ≡ true → whole_up_to (digits_after (n * 10 + (get_or s i 0 - 0x30)) (drop (i + 1) s)) ≡ whole_up_to (digits_after n (drop i s))
  digit below e =
      sym (whole-step below ∙ ap (λ (t : Bool). whole_up_to (cond t (digits_after (n * 10 + (get_or s i 0 - 0x30)) (drop (i + 1) s)) none)) e)

  pub whole-low : i < length s → get_or s i 0 < 0x30 → None ≡ whole_up_to (digits_after n (drop i s))
  unfolding is_digit
  whole-low below h = no_digit below (ap (λ (t : Bool). t && leb (get_or s i 0) 0x39) (lt-leb 0x30 (get_or s i 0) h))

  is_digit_lem : 0x30 ≤ get_or s i 0 → get_or s i 0 ≤ 0x39 → is_digit (get_or s i 0) ≡ true
  unfolding is_digit
  is_digit_lem p q = ap (λ (t : Bool). t && leb (get_or s i 0) 0x39) (le-leb 0x30 (get_or s i 0) p) ∙ le-leb (get_or s i 0) 0x39 q

  pub whole-high : i < length s → 0x30 ≤ get_or s i 0 → 0x39 < get_or s i 0 → None ≡ whole_up_to (digits_after n (drop i s))
  unfolding is_digit
  whole-high below p q =
      no_digit below (ap (λ (t : Bool). t && leb (get_or s i 0) 0x39) (le-leb 0x30 (get_or s i 0) p) ∙ lt-leb (get_or s i 0) 0x39 q)

  pub whole-large : i < length s → 0x30 ≤ get_or s i 0 → get_or s i 0 ≤ 0x39 → 429496728 < n → None ≡ whole_up_to (digits_after n (drop i s))
  whole-large below p q h = sym (whole-past (n * 10 + (get_or s i 0 - 0x30)) (drop (i + 1) s) (omega arith)) ∙ digit below (is_digit_lem p q)

  pub whole-digit : i < length s → 0x30 ≤ get_or s i 0 → get_or s i 0 ≤ 0x39 → whole_up_to (digits_after (n * 10 + (get_or s i 0 - 0x30)) (drop (i + 1) s)) ≡ whole_up_to (digits_after n (drop i s))
  whole-digit below p q = digit below (is_digit_lem p q)

  pub whole-end : length s ≤ i → n ≤ 4294967289 → Some n ≡ whole_up_to (digits_after n (drop i s))
  unfolding whole_up_to digits_after
  whole-end h m =
      sym (ap (λ (l : List ℕ). whole_up_to (digits_after n l)) (drop_of_length-le s h) ∙ ap (λ (t : Bool). cond t (Some n) None) (le-leb n 4294967289 m))

-- ---- the part of a text that a word is

module _ (s : List ℕ) (w : Word) where
  pub part_none : w.end ≤ w.start → [] ≡ bytes_of s w
  unfolding bytes_of
  part_none h = let e : w.end - w.start ≡ 0 = omega arith in sym (ap (λ (n : ℕ). take n (drop w.start s)) e)

  pub part-past : length s ≤ w.start → [] ≡ bytes_of s w
  unfolding bytes_of
  part-past h = sym (ap (λ (l : List ℕ). take (w.end - w.start) l) (drop_of_length-le s h) ∙ take-nil (w.end - w.start))

  pub part-rest : length s < w.end → take (length s - w.start) (drop w.start s) ≡ bytes_of s w
  unfolding bytes_of
  part-rest h =
      take_all (length s - w.start) (drop w.start s) (omega (arith, length-drop w.start s))
      ∙ sym (take_all (w.end - w.start) (drop w.start s) (omega (arith, length-drop w.start s)))

-- the bytes before a place
pub front : (s : List ℕ) (at : ℕ) → bytes_of s (record { start = 0; end = at }) ≡ take at s
unfolding bytes_of
front s at = ap (λ (n : ℕ). take n s) (sub-zero at)
