-- The words of a printed line, one by one: each is the next word from where the reading stands, and its bytes are those printed.
use mathlib.Core.Path.{◌≡◌, refl, sym, ap, ◌∙◌}
use mathlib.Core.Bool.{Bool, true, false, cond, not, ◌&&◌}
use mathlib.Core.List.{List, [], ◌∷◌, ◌++◌}
use Prim.Native.Nat.{ℕ, suc, ◌+◌, ◌-◌, ◌≤◌, ◌<◌}
use native.Mathlib.Omega.{arith}
use borrow.Author.Tests.{le-leb, lt-leb, leb-true, ne_eqb}
use lib.Dec.{leb, eqb}
use lib.ListN.{length, drop, length-append, length-drop}
use lib.Seq.{take-append_seam, drop-append_seam, drop-append-add, drop-drop}
use Rattle.texts.specs.Ascii.{LF, SPACE}
use Rattle.study_reader.specs.Words.{has, is_blank, ends_word, run_of, line_count, next_word, is_empty, next_line, bytes_of}
use Rattle.study_reader.specs.declared.words.Word.{Word}
use Rattle.study_writer.specs.Text.{Line, words_onto, line_onto}

-- ---- bytes of words: from the digit 0 on, so no blank, no end of a word, no comma and no quote

abbrev pub plain : List ℕ → Bool
plain [] = true
plain (b ∷ bs) = leb 0x30 b && plain bs

abbrev pub plain_line : Line → Bool
plain_line [] = true
plain_line (w ∷ ws) = plain w && plain_line ws

pub both : (s t : Bool) → (s && t) ≡ true → (s ≡ true) × (t ≡ true)
both true t h = (refl, h)
both false t h = let z : false ≡ true = h in (cc, cc)

pub other_byte : (b c : ℕ) → 0x30 ≤ b → c < 0x30 → eqb b c ≡ false
other_byte b c h k = ne_eqb b c (λ q. omega arith)

pub other-byte' : (b c : ℕ) → 0x30 ≤ b → c < 0x30 → eqb c b ≡ false
other-byte' b c h k = ne_eqb c b (λ q. omega arith)

no-blank : (b : ℕ) → 0x30 ≤ b → is_blank b ≡ false
unfolding is_blank has
no-blank b h = simp (other_byte b 0x20 h (omega arith), other_byte b 0x09 h (omega arith), other_byte b 0x0d h (omega arith))

no_end : (b : ℕ) → 0x30 ≤ b → ends_word b ≡ false
unfolding ends_word has
no_end b h = simp (no-blank b h, other_byte b 0x0a h (omega arith), other_byte b 0x23 h (omega arith))

-- how many blanks a text starts with, and how many bytes of a word
abbrev blanks_count : List ℕ → ℕ
blanks_count s = run_of is_blank s

abbrev word_count : List ℕ → ℕ
word_count s = run_of (λ b. not (ends_word b)) s

word_count_lem : (w : List ℕ) (c : ℕ) (rest : List ℕ) → plain w ≡ true → ends_word c ≡ true → word_count (w ++ (c ∷ rest)) ≡ length w
unfolding run_of
word_count_lem [] c rest h e = ap (λ (t : Bool). cond (not t) (suc (word_count rest)) 0) e
word_count_lem (b ∷ bs) c rest h e =
    let p = both (leb 0x30 b) (plain bs) h in
    ap (λ (t : Bool). cond (not t) (suc (word_count (bs ++ (c ∷ rest)))) 0) (no_end b (leb-true 0x30 b p.0)) ∙ ap suc (word_count_lem bs c rest p.1 e)

plain-blanks : (b : ℕ) (rest : List ℕ) → 0x30 ≤ b → blanks_count (b ∷ rest) ≡ 0
unfolding run_of
plain-blanks b rest h = ap (λ (t : Bool). cond t (suc (blanks_count rest)) 0) (no-blank b h)

one-blank : (b : ℕ) (rest : List ℕ) → 0x30 ≤ b → blanks_count (SPACE ∷ b ∷ rest) ≡ 1
unfolding run_of is_blank has
one-blank b rest h = ap suc (plain-blanks b rest h)

at-feed : (rest : List ℕ) → (blanks_count (LF ∷ rest) ≡ 0) × (word_count (LF ∷ rest) ≡ 0)
unfolding run_of is_blank ends_word has
at-feed rest = (refl, refl)

-- ---- the next word

-- a word: some bytes, each of them plain
abbrev pub proper : List ℕ → Bool
proper [] = false
proper (b ∷ bs) = leb 0x30 b && plain bs

abbrev pub proper_line : Line → Bool
proper_line [] = true
proper_line (w ∷ ws) = proper w && proper_line ws

pub proper-plain : (w : List ℕ) → proper w ≡ true → plain w ≡ true
proper-plain [] h = refl
proper-plain (b ∷ bs) h = h

pub proper-some : (w : List ℕ) → proper w ≡ true → 0 < length w
proper-some [] h = let z : false ≡ true = h in let y : ◌≡◌ {A = ℕ} 0 1 = cc in omega arith
proper-some (b ∷ bs) h = omega arith

pub line_plain : (l : Line) → proper_line l ≡ true → plain_line l ≡ true
line_plain [] h = refl
line_plain (w ∷ ws) h =
    let p = both (proper w) (proper_line ws) h in
    simp (proper-plain w p.0, line_plain ws p.1)

-- what a text has from a place on is less than all of it
pub inside : (text : List ℕ) (at c : ℕ) (rest : List ℕ) → drop at text ≡ c ∷ rest → at < length text
inside text at c rest h = let e = sym (length-drop at text) ∙ ap length h in omega arith

-- the next word from `at` is w, and `rest` follows it
pub record Spelled (text : List ℕ) (at : ℕ) (w : List ℕ) (rest : List ℕ) : Type 0 where
  pub later : at ≤ (next_word text at).start
  pub some : (next_word text at).start < (next_word text at).end
  pub within : (next_word text at).end < length text
  pub size : (next_word text at).end ≡ (next_word text at).start + length w
  pub bytes : bytes_of text (next_word text at) ≡ w
  pub after : drop (next_word text at).end text ≡ rest

module _ (text : List ℕ) (at k : ℕ) (w : List ℕ) (c : ℕ) (rest : List ℕ) (blanks : blanks_count (drop at text) ≡ k) (here : drop (at + k) text ≡ w ++ (c ∷ rest)) (p : plain w ≡ true) (l : 0 < length w) (e : ends_word c ≡ true) where
  next : next_word text at ≡ record { start = at + k; end = at + k + length w }
  unfolding next_word
  next = rw (blanks, here, word_count_lem w c rest p e)

  then : drop (at + k + length w) text ≡ c ∷ rest
  then = sym (drop-drop (length w) (at + k) text) ∙ ap (drop (length w)) here ∙ drop-append_seam w (c ∷ rest)

  these : bytes_of text (record { start = at + k; end = at + k + length w }) ≡ w
  unfolding bytes_of
  these =
      let n : at + k + length w - (at + k) ≡ length w = omega arith in
      rw (n, here) (take-append_seam w (c ∷ rest))

  spelled : Spelled text at w (c ∷ rest)
  spelled =
      record {
        later = rw next (omega arith);
        some = rw next (omega arith);
        within = rw next (inside text (at + k + length w) c rest then);
        size = rw next refl;
        bytes = rw next these;
        after = rw next then;
      }

-- from the start of a word
word-here : (text : List ℕ) (at : ℕ) (w : List ℕ) (c : ℕ) (rest : List ℕ) → drop at text ≡ w ++ (c ∷ rest) → proper w ≡ true → ends_word c ≡ true
    → Spelled text at w (c ∷ rest)
word-here text at [] c rest h p e = let z : false ≡ true = p in let y : ◌≡◌ {A = ℕ} 0 1 = cc in absurd (let n : ⊥ = omega arith in n)
word-here text at (b ∷ bs) c rest h p e =
    let q = both (leb 0x30 b) (plain bs) p in
    let z : at + 0 ≡ at = omega arith in
    spelled text at 0 (b ∷ bs) c rest (ap blanks_count h ∙ plain-blanks b (bs ++ (c ∷ rest)) (leb-true 0x30 b q.0))
    (ap (λ (n : ℕ). drop n text) z ∙ h) p (omega arith) e

-- from the blank before a word
word_after : (text : List ℕ) (at : ℕ) (w : List ℕ) (c : ℕ) (rest : List ℕ) → drop at text ≡ SPACE ∷ (w ++ (c ∷ rest)) → proper w ≡ true → ends_word c ≡ true
    → Spelled text at w (c ∷ rest)
word_after text at [] c rest h p e = let z : false ≡ true = p in let y : ◌≡◌ {A = ℕ} 0 1 = cc in absurd (let n : ⊥ = omega arith in n)
word_after text at (b ∷ bs) c rest h p e =
    let q = both (leb 0x30 b) (plain bs) p in
    spelled text at 1 (b ∷ bs) c rest (ap blanks_count h ∙ one-blank b (bs ++ (c ∷ rest)) (leb-true 0x30 b q.0))
    (sym (drop-drop 1 at text) ∙ ap (drop 1) h) p (omega arith) e

-- the first word of a line, and one after another
pub first_word : (text : List ℕ) (at : ℕ) (w : List ℕ) (ws : Line) (rest : List ℕ) → drop at text ≡ line_onto (w ∷ ws) rest → proper w ≡ true
    → Spelled text at w (words_onto ws rest)
unfolding line_onto words_onto ends_word is_blank has
first_word text at w [] rest h p = word-here text at w LF rest h p refl
first_word text at w (v ∷ vs) rest h p = word-here text at w SPACE (v ++ words_onto vs rest) h p refl

pub further-word : (text : List ℕ) (at : ℕ) (w : List ℕ) (ws : Line) (rest : List ℕ) → drop at text ≡ words_onto (w ∷ ws) rest → proper w ≡ true
    → Spelled text at w (words_onto ws rest)
unfolding words_onto ends_word is_blank has
further-word text at w [] rest h p = word_after text at w LF rest h p refl
further-word text at w (v ∷ vs) rest h p = word_after text at w SPACE (v ++ words_onto vs rest) h p refl

-- the end of a line holds no word
pub no_word : (text : List ℕ) (at : ℕ) (rest : List ℕ) → drop at text ≡ words_onto [] rest → is_empty (next_word text at) ≡ true
unfolding next_word is_empty words_onto
no_word text at rest h =
    let b : blanks_count (drop at text) ≡ 0 = ap blanks_count h ∙ (at-feed rest).0 in
    let s : at + blanks_count (drop at text) ≡ at = ap (λ (n : ℕ). at + n) b ∙ omega arith in
    let c : word_count (drop (at + blanks_count (drop at text)) text) ≡ 0 = ap (λ (n : ℕ). word_count (drop n text)) s ∙ ap word_count h ∙ (at-feed rest).1 in
    le-leb (at + blanks_count (drop at text) + word_count (drop (at + blanks_count (drop at text)) text)) (at + blanks_count (drop at text)) (omega arith)

pub not-empty : (w : Word) → w.start < w.end → is_empty w ≡ false
unfolding is_empty
not-empty w h = lt-leb w.end w.start h

-- ---- the next line

-- how many bytes
unfoldable pub words_size : Line → ℕ
words_size [] = 1
words_size (w ∷ ws) = 1 + (length w + words_size ws)

unfoldable pub line_size : Line → ℕ
line_size [] = 1
line_size (w ∷ ws) = length w + words_size ws

plain-count : (w s : List ℕ) → plain w ≡ true → line_count (w ++ s) ≡ length w + line_count s
unfolding line_count
plain-count [] s h = omega arith
plain-count (b ∷ bs) s h =
    let p = both (leb 0x30 b) (plain bs) h in
    ap (λ (t : Bool). cond t 1 (suc (line_count (bs ++ s)))) (other_byte b LF (leb-true 0x30 b p.0) (omega arith))
    ∙ ap suc (plain-count bs s p.1)
    ∙ omega arith

words_count : (ws : Line) (rest : List ℕ) → plain_line ws ≡ true → line_count (words_onto ws rest) ≡ words_size ws
unfolding words_onto words_size line_count
words_count [] rest h = refl
words_count (w ∷ ws) rest h =
    let p = both (plain w) (plain_line ws) h in
    ap suc (plain-count w (words_onto ws rest) p.0 ∙ ap (λ (n : ℕ). length w + n) (words_count ws rest p.1)) ∙ omega arith

pub line-count : (l : Line) (rest : List ℕ) → plain_line l ≡ true → line_count (line_onto l rest) ≡ line_size l
unfolding line_onto line_size line_count
line-count [] rest h = refl
line-count (w ∷ ws) rest h =
    let p = both (plain w) (plain_line ws) h in
    plain-count w (words_onto ws rest) p.0 ∙ ap (λ (n : ℕ). length w + n) (words_count ws rest p.1)

words-drop : (ws : Line) (rest : List ℕ) → drop (words_size ws) (words_onto ws rest) ≡ rest
unfolding words_onto words_size
words-drop [] rest = refl
words-drop (w ∷ ws) rest =
    let e : 1 + (length w + words_size ws) ≡ suc (length w + words_size ws) = omega arith in
    ap (λ (n : ℕ). drop n (SPACE ∷ (w ++ words_onto ws rest))) e ∙ drop-append-add w (words_onto ws rest) (words_size ws) ∙ words-drop ws rest

pub line-drop : (l : Line) (rest : List ℕ) → drop (line_size l) (line_onto l rest) ≡ rest
unfolding line_onto line_size
line-drop [] rest = refl
line-drop (w ∷ ws) rest = drop-append-add w (words_onto ws rest) (words_size ws) ∙ words-drop ws rest

-- where the next line starts, and what it is
pub line_after : (text : List ℕ) (at : ℕ) (l : Line) (rest : List ℕ) → drop at text ≡ line_onto l rest → proper_line l ≡ true
    → (next_line text at ≡ at + line_size l) × (drop (at + line_size l) text ≡ rest)
unfolding next_line
line_after text at l rest h p = (
  ap (λ (s : List ℕ). at + line_count s) h ∙ ap (λ (n : ℕ). at + n) (line-count l rest (line_plain l p)),
  sym (drop-drop (line_size l) at text) ∙ ap (drop (line_size l)) h ∙ line-drop l rest,
)

-- a line has bytes
pub line-some : (l : Line) (rest : List ℕ) → 0 < length (line_onto l rest)
unfolding line_onto words_onto
line-some [] rest = omega arith
line-some (w ∷ []) rest = omega (arith, length-append w (LF ∷ rest))
line-some (w ∷ v ∷ vs) rest = omega (arith, length-append w (SPACE ∷ (v ++ words_onto vs rest)))
