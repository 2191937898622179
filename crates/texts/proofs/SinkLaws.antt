-- A text after a text, digits, blanks, an entry of a table; and what is written where there is room.
use Prim.Native.Nat.{ℕ, zero, suc, ◌+◌, ◌-◌, ◌/◌, ◌%◌, ◌≤◌, ◌<◌}
use mathlib.Core.Path.{◌≡◌, refl, sym, ap, ◌∙◌}
use mathlib.Core.Bool.{Bool, true, false, cond, ◌&&◌}
use mathlib.Core.List.{List, [], ◌∷◌, ◌++◌, append_assoc}
use native.Mathlib.Omega.{arith}
use native.Mathlib.Numerals.{add-one}
use borrow.Author.Tests.{lt-ltb, le-ltb, ltb-true, ltb-false, leb-true, leb-false, le-leb, lt-leb, eq-eqb, ne_eqb}
use lib.Dec.{ltb, leb, eqb}
use lib.ListN.{length, take, drop, set, get_or, replicate, length-set, take-append-drop, replicate-append-replicate, drop_of_length-le}
use lib.Seq.{take-suc, take_all, take-suc-set, drop-set-lt, drop-cons}
use Rattle.texts.specs.Ascii.{SPACE, LF}
use Rattle.texts.specs.Digits.{digit, decimal_onto, decimal}
use Rattle.texts.specs.Written.{written}
use Rattle.texts.specs.Sink.{largest_place, place_after, put_from, end_from, Appended, placed, Wrote, has_room, length_to, entry}

put-append : (out : List ℕ) (at : ℕ) (a b : List ℕ) → put_from out at (a ++ b) ≡ put_from (put_from out at a) (end_from at a) b
unfolding put_from end_from
put-append out at [] b = refl
put-append out at (c ∷ cs) b = put-append (set out at c) (place_after at) cs b

end-append : (at : ℕ) (a b : List ℕ) → end_from at (a ++ b) ≡ end_from (end_from at a) b
unfolding end_from
end-append at [] b = refl
end-append at (c ∷ cs) b = end-append (place_after at) cs b

pub appended_then : {out : List ℕ} {at : ℕ} {a mid : List ℕ} {e : ℕ} {b last : List ℕ} {r : ℕ} → Appended out at a mid e → Appended mid e b last r → Appended out at (a ++ b) last r
appended_then {out} {at} {a} {mid} {e} {b} {last} {r} s t =
    record {
      holds = t.holds ∙ ap (λ (l : List ℕ). put_from l e b) s.holds ∙ ap (λ (n : ℕ). put_from (put_from out at a) n b) s.ends ∙ sym (put-append out at a b);
      ends = t.ends ∙ ap (λ (n : ℕ). end_from n b) s.ends ∙ sym (end-append at a b);
    }

pub appended-none : (out : List ℕ) (at : ℕ) → Appended out at [] out at
unfolding put_from end_from
appended-none out at = record { holds = refl; ends = refl }

pub appended-text : {out : List ℕ} {at : ℕ} {a b out' : List ℕ} {r : ℕ} → a ≡ b → Appended out at a out' r → Appended out at b out' r
appended-text e s = rw e at s

pub appended-byte : (out : List ℕ) (at b : ℕ) (out' : List ℕ) (r : ℕ) → out' ≡ set out at b → r ≡ place_after at → Appended out at (b ∷ []) out' r
unfolding put_from end_from
appended-byte out at b out' r h e = record { holds = h; ends = e }

-- one more byte of a text
pub appended-turn : (out : List ℕ) (at : ℕ) (text : List ℕ) (k : ℕ) (mid : List ℕ) (e : ℕ) (last : List ℕ) (r : ℕ) → k < length text → Appended out at (take k text) mid e
    → Appended mid e (get_or text k 0 ∷ []) last r → Appended out at (take (k + 1) text) last r
appended-turn out at text k mid e last r l s t = appended-text (sym (ap (λ (n : ℕ). take n text) (add-one k) ∙ take-suc text k 0 l)) (appended_then s t)

pub appended-all : (out : List ℕ) (at : ℕ) (text : List ℕ) (k : ℕ) (mid : List ℕ) (e : ℕ) → length text ≤ k → Appended out at (take k text) mid e → Appended out at text mid e
appended-all out at text k mid e l s = appended-text (take_all k text l) s

pub put-length : (out : List ℕ) (at : ℕ) (text : List ℕ) → length (put_from out at text) ≡ length out
unfolding put_from
put-length out at [] = refl
put-length out at (b ∷ bs) = put-length (set out at b) (place_after at) bs ∙ length-set out at b

-- ---- digits

onto-text : (s t n : ℕ) (text : List ℕ) → n ≤ s → n ≤ t → decimal_onto s n text ≡ decimal_onto t n [] ++ text
unfolding decimal_onto
onto-text zero zero n text h k = refl
onto-text zero (suc t) n text h k = sym (ap (λ (b : Bool). elim b [ true ↦ digit n ∷ [] | false ↦ decimal_onto t (n / 10) (digit (n % 10) ∷ []) ] ++ text) (lt-ltb n 10 (omega arith)))
onto-text (suc s) zero n text h k = ap (λ (b : Bool). elim b [ true ↦ digit n ∷ text | false ↦ decimal_onto s (n / 10) (digit (n % 10) ∷ text) ]) (lt-ltb n 10 (omega arith))
onto-text (suc s) (suc t) n text h k =
    go (ltb n 10) refl
    (λ l. onto-text s t (n / 10) (digit (n % 10) ∷ text) (omega arith) (omega arith)
    ∙ sym (ap (λ (x : List ℕ). x ++ text) (onto-text t t (n / 10) (digit (n % 10) ∷ []) (omega arith) (omega arith)) ∙ append_assoc (decimal_onto t (n / 10) []) (digit (n % 10) ∷ []) text))
  where
    go : (b : Bool) → ltb n 10 ≡ b → (10 ≤ n → decimal_onto s (n / 10) (digit (n % 10) ∷ text) ≡ decimal_onto t (n / 10) (digit (n % 10) ∷ []) ++ text)
        → elim b [ true ↦ digit n ∷ text | false ↦ decimal_onto s (n / 10) (digit (n % 10) ∷ text) ]
        ≡ elim b [ true ↦ digit n ∷ [] | false ↦ decimal_onto t (n / 10) (digit (n % 10) ∷ []) ] ++ text
    go true e ih = refl
    go false e ih = ih (ltb-false n 10 e)

onto-one : (s n : ℕ) → n < 10 → decimal_onto s n [] ≡ digit n ∷ []
unfolding decimal_onto
onto-one zero n h = refl
onto-one (suc s) n h = ap (λ (b : Bool). elim b [ true ↦ digit n ∷ [] | false ↦ decimal_onto s (n / 10) (digit (n % 10) ∷ []) ]) (lt-ltb n 10 h)

pub decimal-one : (n : ℕ) → n < 10 → (48 + n) ∷ [] ≡ decimal n
unfolding decimal
decimal-one n h = sym (onto-one n n h)

onto-more : (s n : ℕ) → 10 ≤ n → n ≤ s → decimal_onto s n [] ≡ decimal_onto (n / 10) (n / 10) [] ++ (digit (n % 10) ∷ [])
unfolding decimal_onto
onto-more zero n h k = absurd (let z : ⊥ = omega arith in z)
onto-more (suc s) n h k =
    ap (λ (b : Bool). elim b [ true ↦ digit n ∷ [] | false ↦ decimal_onto s (n / 10) (digit (n % 10) ∷ []) ]) (le-ltb n 10 h)
    ∙ onto-text s (n / 10) (n / 10) (digit (n % 10) ∷ []) (omega arith) (omega arith)

pub decimal-more : (n : ℕ) → 10 ≤ n → decimal (n / 10) ++ ((48 + n % 10) ∷ []) ≡ decimal n
unfolding decimal
decimal-more n h = sym (onto-more n n h (omega arith))

-- ---- from the front, with room

pub put-there : (out : List ℕ) (at : ℕ) (text : List ℕ) → at + length text ≤ length out → at + length text ≤ largest_place
    → put_from out at text ≡ take at out ++ (text ++ drop (at + length text) out)
unfolding put_from place_after
put-there out at [] h k = let e : at + 0 ≡ at = omega arith in sym (ap (λ (n : ℕ). take at out ++ drop n out) e ∙ take-append-drop at out)
put-there out at (b ∷ bs) h k =
    let p : cond (ltb at largest_place) (at + 1) at ≡ at + 1 = ap (λ (t : Bool). cond t (at + 1) at) (lt-ltb at largest_place (omega arith)) in
    let l = length-set out at b in
    ap (λ (n : ℕ). put_from (set out at b) n bs) p
    ∙ put-there (set out at b) (at + 1) bs (omega arith) (omega arith)
    ∙ ap (λ (x : List ℕ). x ++ (bs ++ drop (at + 1 + length bs) (set out at b))) (ap (λ (n : ℕ). take n (set out at b)) (add-one at) ∙ take-suc-set out at b (omega arith))
    ∙ append_assoc (take at out) (b ∷ []) (bs ++ drop (at + 1 + length bs) (set out at b))
    ∙ ap (λ (x : List ℕ). take at out ++ (b ∷ (bs ++ x))) (drop-set-lt (at + 1 + length bs) out at b (omega arith) ∙ ap (λ (n : ℕ). drop n out) (let e : at + 1 + length bs ≡ at + suc (length bs) = omega arith in e))

pub end-there : (at : ℕ) (text : List ℕ) → at + length text ≤ largest_place → end_from at text ≡ at + length text
unfolding end_from place_after
end-there at [] h = omega arith
end-there at (b ∷ bs) h =
    let p : cond (ltb at largest_place) (at + 1) at ≡ at + 1 = ap (λ (t : Bool). cond t (at + 1) at) (lt-ltb at largest_place (omega arith)) in
    ap (λ (n : ℕ). end_from n bs) p ∙ end-there (at + 1) bs (omega arith) ∙ omega arith

end-over : (at : ℕ) (text : List ℕ) → at ≤ largest_place → largest_place ≤ at + length text → end_from at text ≡ largest_place
unfolding end_from place_after
end-over at [] h k = omega arith
end-over at (b ∷ bs) h k = go (ltb at largest_place) refl (λ l. end-over (at + 1) bs l (omega arith)) (λ l. end-over at bs h l)
  where
    go : (t : Bool) → ltb at largest_place ≡ t → (at + 1 ≤ largest_place → end_from (at + 1) bs ≡ largest_place) → (largest_place ≤ at + length bs → end_from at bs ≡ largest_place)
        → end_from (cond t (at + 1) at) bs ≡ largest_place
    go true e up stay = up (omega (arith, ltb-true at largest_place e))
    go false e up stay = stay (omega (arith, ltb-false at largest_place e))

-- ---- a text at the front, or nothing

module _ (text : List ℕ) (len : ℕ) (e : len ≡ end_from 0 text) where
  not-long : len < largest_place → length text < largest_place
  not-long h = go (ltb (length text) largest_place) refl
    where
      go : (t : Bool) → ltb (length text) largest_place ≡ t → length text < largest_place
      go true f = ltb-true (length text) largest_place f
      go false f = absurd (let z : ⊥ = omega (arith, e, end-over 0 text (omega arith) (omega (arith, ltb-false (length text) largest_place f))) in z)

  pub place-length : length text < largest_place → len ≡ length text
  place-length h = e ∙ end-there 0 text (omega arith) ∙ omega arith

  is-long : largest_place ≤ len → largest_place ≤ length text
  is-long h = go (ltb (length text) largest_place) refl
    where
      go : (t : Bool) → ltb (length text) largest_place ≡ t → largest_place ≤ length text
      go true f = absurd (let z : ⊥ = omega (arith, ltb-true (length text) largest_place f, place-length (ltb-true (length text) largest_place f)) in z)
      go false f = ltb-false (length text) largest_place f

pub placed-whole : (text : List ℕ) → length text < largest_place → placed text ≡ text
unfolding placed
placed-whole text h = ap (λ (t : Bool). cond t text []) (lt-ltb (length text) largest_place h)

placed-none : (text : List ℕ) → largest_place ≤ length text → placed text ≡ []
unfolding placed
placed-none text h = ap (λ (t : Bool). cond t text []) (le-ltb (length text) largest_place h)

both : (a b : Bool) → a && b ≡ true → (a ≡ true) × (b ≡ true)
both true b e = (refl, e)
both false b e = (e, absurd (let z : ◌≡◌ {A = ℕ} 0 1 = cc in let y : ⊥ = omega arith in y))

module _ {none : List ℕ} {text none' : List ℕ} {len : ℕ} (first : Appended none 0 text none' len) (out : List ℕ) where
  pub wrote-there : has_room len (length out) ≡ true → {out' : List ℕ} {r : ℕ} → Appended out 0 text out' r → Wrote out text out' r
  unfolding written
  wrote-there fits {out'} {r} s =
      let two = both (ltb len largest_place) (leb len (length out)) fits in
      let short = not-long text len first.ends (ltb-true len largest_place two.0) in
      let p = placed-whole text short in
      let room : length text ≤ length out = omega (arith, place-length text len first.ends short, leb-true len (length out) two.1) in
      record {
        answers = place-length text r s.ends short ∙ ap length (sym p);
        leaves =
            s.holds
            ∙ put-there out 0 text (omega arith) (omega arith)
            ∙ ap (λ (n : ℕ). text ++ drop n out) (let z : 0 + length text ≡ length text = omega arith in z)
            ∙ sym (ap (λ (t : Bool). cond t (text ++ drop (length text) out) out) (le-leb (length text) (length out) room))
            ∙ ap (written out) (sym p);
      }

  pub wrote_nothing : has_room len (length out) ≡ false → {r : ℕ} → r ≡ length_to len → Wrote out text out r
  unfolding written
  wrote_nothing fits {r} answer = go (ltb len largest_place) refl fits answer
    where
      go : (t : Bool) → ltb len largest_place ≡ t → t && leb len (length out) ≡ false → r ≡ cond t len 0 → Wrote out text out r
      go true e f a =
          let short = not-long text len first.ends (ltb-true len largest_place e) in
          let p = placed-whole text short in
          let l = place-length text len first.ends short in
          record {
            answers = a ∙ l ∙ ap length (sym p);
            leaves =
                sym (ap (λ (t : Bool). cond t (text ++ drop (length text) out) out) (lt-leb (length text) (length out) (omega (arith, l, leb-false len (length out) f))))
                ∙ ap (written out) (sym p);
          }
      go false e f a =
          let p = placed-none text (is-long text len first.ends (ltb-false len largest_place e)) in
          record {
            answers = a ∙ ap length (sym p);
            leaves = sym (ap (λ (b : Bool). cond b out out) (le-leb 0 (length out) (omega arith))) ∙ ap (written out) (sym p);
          }

-- ---- blanks

-- one more blank
pub blanks-turn : {out : List ℕ} {at : ℕ} (k : ℕ) {mid : List ℕ} {e : ℕ} {last : List ℕ} {r : ℕ} → Appended out at (replicate k SPACE) mid e → Appended mid e (SPACE ∷ []) last r
    → Appended out at (replicate (k + 1) SPACE) last r
blanks-turn k s t = appended-text (replicate-append-replicate k 1 SPACE) (appended_then s t)

-- ---- entries of a table

pub entry-skip : (left b : ℕ) (bs : List ℕ) → 0 < left → entry (cond (eqb b LF) (left - 1) left) bs ≡ entry left (b ∷ bs)
unfolding entry
entry-skip zero b bs h = absurd (let z : ⊥ = omega arith in z)
entry-skip (suc i) b bs h = go (eqb b LF)
  where
    go : (t : Bool) → entry (cond t (suc i - 1) (suc i)) bs ≡ cond t (entry i bs) (entry (suc i) bs)
    go true = let e : suc i - 1 ≡ i = omega arith in ap (λ (n : ℕ). entry n bs) e
    go false = refl

module _ (table : List ℕ) (k : ℕ) (h : k < length table) where
  head : drop k table ≡ get_or table k 0 ∷ drop (k + 1) table
  head = drop-cons table k 0 h ∙ ap (λ (n : ℕ). get_or table k 0 ∷ drop n table) (sym (add-one k))

  pub entry-turn : (left : ℕ) → 0 < left → entry (cond (eqb (get_or table k 0) LF) (left - 1) left) (drop (k + 1) table) ≡ entry left (drop k table)
  entry-turn left l = entry-skip left (get_or table k 0) (drop (k + 1) table) l ∙ ap (entry left) (sym head)

  pub entry-stop : get_or table k 0 ≡ LF → entry zero (drop k table) ≡ []
  unfolding entry
  entry-stop e = ap (entry zero) head ∙ ap (λ (t : Bool). cond t [] (get_or table k 0 ∷ entry zero (drop (k + 1) table))) (eq-eqb (get_or table k 0) LF e)

  pub entry-byte : (get_or table k 0 ≡ LF → ⊥) → entry zero (drop k table) ≡ get_or table k 0 ∷ entry zero (drop (k + 1) table)
  unfolding entry
  entry-byte e = ap (entry zero) head ∙ ap (λ (t : Bool). cond t [] (get_or table k 0 ∷ entry zero (drop (k + 1) table))) (ne_eqb (get_or table k 0) LF e)

pub entry_past : (i : ℕ) (table : List ℕ) (k : ℕ) → length table ≤ k → entry i (drop k table) ≡ []
unfolding entry
entry_past i table k h = ap (entry i) (drop_of_length-le table h) ∙ nothing i
  where
    nothing : (i : ℕ) → entry i [] ≡ []
    nothing zero = refl
    nothing (suc i) = refl

-- what is left to write, from a place on, makes the whole text
abbrev pub Rest : List ℕ → ℕ → List ℕ → List ℕ → ℕ → List ℕ → Type 0
Rest out at text mid e left = (last : List ℕ) (r : ℕ) → Appended mid e left last r → Appended out at text last r
