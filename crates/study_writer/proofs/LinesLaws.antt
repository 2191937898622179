-- Lines after lines, and the words that depend on a number.
use mathlib.Core.Path.{◌≡◌, refl, sym, ap, ◌∙◌}
use mathlib.Core.Bool.{Bool, false, cond}
use mathlib.Core.List.{List, [], ◌∷◌, ◌++◌, append_assoc, append-nil}
use Prim.Native.Nat.{ℕ, zero, suc, ◌+◌, ◌*◌}
use native.Mathlib.Omega.{arith}
use borrow.Author.Tests.{eq-eqb, ne_eqb}
use lib.Dec.{eqb}
use lib.Ieee.{Float}
use lib.ListN.{get_or}
use Rattle.texts.specs.Ascii.{ascii, LF, SPACE}
use Rattle.texts.specs.Sink.{Appended}
use Rattle.texts.proofs.SinkLaws.{appended_then, appended-none, appended-text}
use Rattle.model.specs.Layout.{words_width, body1_place, body2_place}
use Rattle.study_writer.specs.Text.{Line, line_onto, words_onto, lines_text, one, two, body_word, joint_word, end_word, model_word, enabled_word, center_line, items_from}

words_append : (ws : Line) (s : List ℕ) → words_onto ws s ≡ words_onto ws [] ++ s
unfolding words_onto
words_append [] s = refl
words_append (w ∷ ws) s = ap (λ (t : List ℕ). 0x20 ∷ (w ++ t)) (words_append ws s) ∙ ap (λ (t : List ℕ). 0x20 ∷ t) (sym (append_assoc w (words_onto ws []) s))

onto-append : (l : Line) (s : List ℕ) → line_onto l s ≡ line_onto l [] ++ s
unfolding line_onto
onto-append [] s = refl
onto-append (w ∷ ws) s = ap (λ (t : List ℕ). w ++ t) (words_append ws s) ∙ sym (append_assoc w (words_onto ws []) s)

pub lines-append : (a b : List Line) → lines_text (a ++ b) ≡ lines_text a ++ lines_text b
unfolding lines_text
lines-append [] b = refl
lines-append (l ∷ ls) b =
    ap (line_onto l) (lines-append ls b)
    ∙ onto-append l (lines_text ls ++ lines_text b)
    ∙ sym (append_assoc (line_onto l []) (lines_text ls) (lines_text b))
    ∙ ap (λ (t : List ℕ). t ++ lines_text b) (sym (onto-append l (lines_text ls)))

pub lines_then : (a b : List Line) {out : List ℕ} {at : ℕ} {mid : List ℕ} {e : ℕ} {last : List ℕ} {r : ℕ} → Appended out at (lines_text a) mid e
    → Appended mid e (lines_text b) last r → Appended out at (lines_text (a ++ b)) last r
lines_then a b s t = appended-text (sym (lines-append a b)) (appended_then s t)

-- ---- words that depend on a number

pub end-world : (i : ℕ) → i ≡ 4294967295 → ascii " world" ≡ SPACE ∷ end_word i
unfolding end_word
end-world i e = sym (ap (λ (t : Bool). SPACE ∷ cond t (ascii "world") (body_word i)) (eq-eqb i 4294967295 e))

pub end_body : (i : ℕ) → (i ≡ 4294967295 → ⊥) → SPACE ∷ body_word i ≡ SPACE ∷ end_word i
unfolding end_word
end_body i e = sym (ap (λ (t : Bool). SPACE ∷ cond t (ascii "world") (body_word i)) (ne_eqb i 4294967295 e))

pub model-acceleration : (v : ℕ) → v ≡ 0 → ascii " acceleration" ≡ SPACE ∷ model_word v
unfolding model_word
model-acceleration v e = sym (ap (λ (t : Bool). SPACE ∷ cond t (ascii "acceleration") (ascii "force")) (eq-eqb v 0 e))

pub model-force : (v : ℕ) → (v ≡ 0 → ⊥) → ascii " force" ≡ SPACE ∷ model_word v
unfolding model_word
model-force v e = sym (ap (λ (t : Bool). SPACE ∷ cond t (ascii "acceleration") (ascii "force")) (ne_eqb v 0 e))

enabled-text : Bool → Bool → List ℕ
enabled-text s t = cond s (ascii "enabled") (cond t (ascii "disabled_by_attached_body") (ascii "disabled")) ++ (LF ∷ [])

pub enabled-enabled : (v : ℕ) → v ≡ 0 → ascii "enabled\n" ≡ lines_text ((enabled_word v ∷ []) ∷ [])
unfolding enabled_word lines_text line_onto words_onto enabled-text
enabled-enabled v e = sym (ap (λ (s : Bool). enabled-text s (eqb v 1)) (eq-eqb v 0 e))

pub enabled-attached : (v : ℕ) → (v ≡ 0 → ⊥) → v ≡ 1 → ascii "disabled_by_attached_body\n" ≡ lines_text ((enabled_word v ∷ []) ∷ [])
unfolding enabled_word lines_text line_onto words_onto enabled-text
enabled-attached v e f = sym (ap (λ (s : Bool). enabled-text s (eqb v 1)) (ne_eqb v 0 e) ∙ ap (enabled-text false) (eq-eqb v 1 f))

pub enabled-disabled : (v : ℕ) → (v ≡ 0 → ⊥) → (v ≡ 1 → ⊥) → ascii "disabled\n" ≡ lines_text ((enabled_word v ∷ []) ∷ [])
unfolding enabled_word lines_text line_onto words_onto enabled-text
enabled-disabled v e f = sym (ap (λ (s : Bool). enabled-text s (eqb v 1)) (ne_eqb v 0 e) ∙ ap (enabled-text false) (ne_eqb v 1 f))

pub center-pair : (v : ℕ) (x y : Float) → v ≡ 0 → lines_text (two "center" x y ∷ []) ≡ lines_text (center_line v x y ∷ [])
unfolding center_line
center-pair v x y e = sym (ap (λ (t : Bool). lines_text (cond t (two "center" x y) (one "center_angle" x) ∷ [])) (eq-eqb v 0 e))

pub center-angle : (v : ℕ) (x y : Float) → (v ≡ 0 → ⊥) → lines_text (one "center_angle" x ∷ []) ≡ lines_text (center_line v x y ∷ [])
unfolding center_line
center-angle v x y e = sym (ap (λ (t : Bool). lines_text (cond t (two "center" x y) (one "center_angle" x) ∷ [])) (ne_eqb v 0 e))

-- a joint's first body stands at the start of its words
pub first-end : (words : List ℕ) (j : ℕ) → lines_text ((ascii "joint" ∷ joint_word j ∷ end_word (get_or words (j * words_width) 0) ∷ end_word (get_or words (j * words_width + body2_place) 0) ∷ []) ∷ [])
    ≡ lines_text ((ascii "joint" ∷ joint_word j ∷ end_word (get_or words (j * words_width + body1_place) 0) ∷ end_word (get_or words (j * words_width + body2_place) 0) ∷ []) ∷ [])
first-end words j =
    let e : j * words_width ≡ j * words_width + body1_place = omega arith in
    ap (λ (n : ℕ). lines_text ((ascii "joint" ∷ joint_word j ∷ end_word (get_or words n 0) ∷ end_word (get_or words (j * words_width + body2_place) 0) ∷ []) ∷ [])) e

pub settings-first : ascii "settings\n" ≡ lines_text ((ascii "settings" ∷ []) ∷ [])
unfolding lines_text line_onto words_onto
settings-first = refl

-- ---- lines after lines

module _ {out : List ℕ} {at : ℕ} {mid : List ℕ} {e : ℕ} {last : List ℕ} {r : ℕ} where
  pub lines-one : (l : Line) (ls : List Line) → Appended out at (lines_text (l ∷ [])) mid e → Appended mid e (lines_text ls) last r → Appended out at (lines_text (l ∷ ls)) last r
  lines-one l ls s t = lines_then (l ∷ []) ls s t

  pub lines_two : (l l₂ : Line) (ls : List Line) → Appended out at (lines_text (l ∷ l₂ ∷ [])) mid e → Appended mid e (lines_text ls) last r
      → Appended out at (lines_text (l ∷ l₂ ∷ ls)) last r
  lines_two l l₂ ls s t = lines_then (l ∷ l₂ ∷ []) ls s t

  pub lines-three : (l l₂ l₃ : Line) (ls : List Line) → Appended out at (lines_text (l ∷ l₂ ∷ l₃ ∷ [])) mid e → Appended mid e (lines_text ls) last r
      → Appended out at (lines_text (l ∷ l₂ ∷ l₃ ∷ ls)) last r
  lines-three l l₂ l₃ ls s t = lines_then (l ∷ l₂ ∷ l₃ ∷ []) ls s t

  pub lines-four : (l l₂ l₃ l₄ : Line) (ls : List Line) → Appended out at (lines_text (l ∷ l₂ ∷ l₃ ∷ l₄ ∷ [])) mid e → Appended mid e (lines_text ls) last r
      → Appended out at (lines_text (l ∷ l₂ ∷ l₃ ∷ l₄ ∷ ls)) last r
  lines-four l l₂ l₃ l₄ ls s t = lines_then (l ∷ l₂ ∷ l₃ ∷ l₄ ∷ []) ls s t

-- ---- so many items

module _ (lines : ℕ → List Line) where
  items-snoc : (i n : ℕ) → items_from lines i (n + 1) ≡ items_from lines i n ++ lines (i + n)
  unfolding items_from
  items-snoc i zero = let e : i + 0 ≡ i = omega arith in rw e (append-nil (lines i))
  items-snoc i (suc n) =
      let e : i + 1 + n ≡ i + suc n = omega arith in
      let f : suc n + 1 ≡ suc (n + 1) = omega arith in
      ap (items_from lines i) f
      ∙ ap (λ (l : List Line). lines i ++ l) (items-snoc (i + 1) n)
      ∙ ap (λ (k : ℕ). lines i ++ (items_from lines (i + 1) n ++ lines k)) e
      ∙ sym (append_assoc (lines i) (items_from lines (i + 1) n) (lines (i + suc n)))

  module _ (out : List ℕ) (at : ℕ) where
    pub items-none : Appended out at (lines_text (items_from lines 0 0)) out at
    unfolding items_from lines_text
    items-none = appended-none out at

    pub items-turn : (i : ℕ) {mid : List ℕ} {e : ℕ} {last : List ℕ} {r : ℕ} → Appended out at (lines_text (items_from lines 0 i)) mid e → Appended mid e (lines_text (lines i)) last r
        → Appended out at (lines_text (items_from lines 0 (i + 1))) last r
    items-turn i s t =
        let z : 0 + i ≡ i = omega arith in
        appended-text (ap lines_text (sym (items-snoc 0 i ∙ ap (λ (k : ℕ). items_from lines 0 i ++ lines k) z))) (lines_then (items_from lines 0 i) (lines i) s t)
