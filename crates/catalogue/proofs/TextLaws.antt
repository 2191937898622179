-- Texts of a list's elements written one after the other; an id: its kind and its axis; a joint's ids as the code holds them; lines.
use Prim.Native.Nat.{ℕ, zero, suc, ◌+◌, ◌≤◌, ◌<◌}
use mathlib.Core.Path.{◌≡◌, refl, sym, ap, ◌∙◌}
use mathlib.Core.List.{List, [], ◌∷◌, ◌++◌, map, flat_map}
use native.Mathlib.Omega.{arith}
use lib.ListN.{length, get_or, take, length-map, get_or-map, get_or-eq_default}
use lib.Seq.{length-take-le, take_all, get_or-take}
use Rattle.rows.specs.RowIds.{row_ids, row_ids_array, row_id, no_masks}
use Rattle.rows.specs.declared.generic_joint.Masks.{Masks}
use Rattle.rows.specs.declared.row_ids.RowId.{RowId}
use Rattle.rows.specs.declared.row_ids.RowIds.{RowIds}
use Rattle.rows.specs.declared.joint_velocity_constraint.WritebackId.{WritebackId}
use Rattle.rows.specs.declared.joint_velocity_constraint.WritebackId.TheVariants.{Dof, Limit, Motor}
use Rattle.rows.proofs.Filled.{length-filled}
use Rattle.rows.proofs.RowIdsCount.{at-most-six}
use Rattle.rows.proofs.RowArrays.{row_ids_array-len, row_ids_array-ids}
use Rattle.model.specs.Store.{axis_of}
use Rattle.texts.specs.Ascii.{LF, SPACE}
use Rattle.texts.specs.Sink.{Appended}
use Rattle.texts.proofs.SinkLaws.{appended-none, appended_then, appended-text}
use Rattle.catalogue.specs.Choices.{choices, choice_of, entry, Legal}
use Rattle.catalogue.specs.Text.{axis_digit, kind_text, id_text, spaced_id, ids_text, head_text, line_text, catalogue_text, line_at}
use Rattle.catalogue.proofs.FlatLaws.{flat-turn, flat-none}
use Rattle.catalogue.proofs.ChoicesLaws.{choices-length, entry_at, legal-choice}

-- ---- the texts of a list's elements, one after the other
module _ {A : Type 0} (f : A → List ℕ) (l : List A) {out : List ℕ} {at : ℕ} where
  -- before the first
  pub appended-first : Appended out at (flat_map f (take 0 l)) out at
  appended-first = appended-text (sym (flat-none f l)) (appended-none out at)

  module _ (i : ℕ) {mid : List ℕ} {end : ℕ} (p : Appended out at (flat_map f (take i l)) mid end) where
    -- one more
    pub appended-more : (d : A) → i < length l → {last : List ℕ} {r : ℕ} → Appended mid end (f (get_or l i d)) last r → Appended out at (flat_map f (take (i + 1) l)) last r
    appended-more d h q = appended-text (sym (flat-turn f l i d h)) (appended_then p q)

    -- after the last
    pub appended-last : length l ≤ i → Appended out at (flat_map f l) mid end
    appended-last h = appended-text (ap (flat_map f) (take_all i l h)) p

-- ---- an id

pub id-words : (id : WritebackId) → kind_text id ++ axis_digit (axis_of id) ∷ [] ≡ id_text id
id-words (Dof i) = refl
id-words (Limit i) = refl
id-words (Motor i) = refl

-- ---- a joint's ids in the array that the code holds

-- the text of an id as an element of the array
abbrev pub named : RowId → List ℕ
named r = spaced_id r.id

pub named-appended : (r : RowId) {out : List ℕ} {at : ℕ} {mid : List ℕ} {a : ℕ} {last : List ℕ} {e : ℕ} → Appended out at (SPACE ∷ []) mid a → Appended mid a (id_text r.id) last e
    → Appended out at (named r) last e
unfolding spaced_id
named-appended r p q = appended_then p q

named-ids : (l : List RowId) → flat_map named l ≡ ids_text (map (λ (i : RowId). i.id) l)
unfolding flat_map
named-ids [] = refl
named-ids (r ∷ l) = ap (λ (t : List ℕ). named r ++ t) (named-ids l)

module _ (k : Masks) {ids : RowIds} (e : ids ≡ row_ids_array k) where
  ids-array : length ids.ids ≡ 6
  unfolding row_ids_array
  ids-array = ap (λ (r : RowIds). length r.ids) e ∙ length-filled (row_id (Dof 0)) 6 (map row_id (row_ids 2 1 k))

  pub ids-few : ids.len ≤ 6
  ids-few = omega (arith, ap (λ (r : RowIds). r.len) e ∙ row_ids_array-len k, at-most-six k)

  ids-text : flat_map named (take ids.len ids.ids) ≡ ids_text (row_ids 2 1 k)
  ids-text =
      named-ids (take ids.len ids.ids)
      ∙ ap ids_text (ap (λ (r : RowIds). map (λ (i : RowId). i.id) (take r.len r.ids)) e ∙ row_ids_array-ids k)

  first-len : length (take ids.len ids.ids) ≡ ids.len
  first-len = length-take-le ids.len ids.ids (omega (arith, ids-few, ids-array))

  -- of which i are written
  module _ {out : List ℕ} {at : ℕ} (i : ℕ) {mid : List ℕ} {end : ℕ} (p : Appended out at (flat_map named (take i (take ids.len ids.ids))) mid end) where
    pub ids-turn : i < ids.len → {last : List ℕ} {r : ℕ} → Appended mid end (named (get_or ids.ids i (row_id (Dof 0)))) last r
        → Appended out at (flat_map named (take (i + 1) (take ids.len ids.ids))) last r
    ids-turn h q =
        appended-more named (take ids.len ids.ids) i p (row_id (Dof 0)) (omega (arith, first-len)) (appended-text (sym (ap named (get_or-take ids.len ids.ids i (row_id (Dof 0)) h))) q)

    pub ids-end : ids.len ≤ i → Appended out at (ids_text (row_ids 2 1 k)) mid end
    ids-end h = appended-text ids-text (appended-last named (take ids.len ids.ids) i p (omega (arith, first-len)))

-- ---- lines

-- a line's parts
module _ (n : ℕ) (k : Masks) (chosen : k ≡ choice_of n) (count : ℕ) (counted : count ≡ length (row_ids 2 1 k)) where
  pub head_small : n < 4096 → (k.locked_axes < 8) × (k.limit_axes < 8) × (k.motor_axes < 8) × (k.coupled_axes < 8) × (count < 8)
  head_small h =
      let l : Legal k = rw chosen (legal-choice n h) in
      (omega (arith, l.locked), omega (arith, l.limit), omega (arith, l.motor), omega (arith, l.coupled), omega (arith, at-most-six k))

  pub line-appended : {out : List ℕ} {at : ℕ} {m₁ : List ℕ} {a₁ : ℕ} {m₂ : List ℕ} {a₂ : ℕ} {last : List ℕ} {r : ℕ} → Appended out at (head_text k count) m₁ a₁ → Appended m₁ a₁ (ids_text (row_ids 2 1 k)) m₂ a₂
      → Appended m₂ a₂ (LF ∷ []) last r → Appended out at (line_text (choice_of n)) last r
  unfolding line_text
  line-appended p q s =
      appended-text (ap (λ (c : ℕ). head_text k c ++ ids_text (row_ids 2 1 k) ++ (LF ∷ [])) counted ∙ ap line_text chosen) (appended_then (appended_then p q) s)

line-at : (n : ℕ) → n < 4096 → line_text (entry n) ≡ line_text (choice_of n)
line-at n h = ap line_text (entry_at n h)

-- of all lines n are written
module _ {out : List ℕ} (n : ℕ) {mid : List ℕ} {end : ℕ} (p : Appended out 0 (flat_map line_text (take n choices)) mid end) where
  pub lines-turn : n < 4096 → {last : List ℕ} {r : ℕ} → Appended mid end (line_text (choice_of n)) last r → Appended out 0 (flat_map line_text (take (n + 1) choices)) last r
  lines-turn h q = appended-more line_text choices n p no_masks (omega (arith, choices-length)) (appended-text (sym (line-at n h)) q)

  pub lines_end : 4096 ≤ n → Appended out 0 catalogue_text mid end
  unfolding catalogue_text
  lines_end h = appended-last line_text choices n p (omega (arith, choices-length))

-- line n

get_d_default : {A : Type 0} (l : List A) (n : ℕ) (d e : A) → n < length l → get_or l n d ≡ get_or l n e
get_d_default [] n d e h = absurd (omega arith)
get_d_default (x ∷ l) zero d e h = refl
get_d_default (x ∷ l) (suc n) d e h = get_d_default l n d e (omega arith)

pub there-line : (n : ℕ) → n < 4096 → line_at n ≡ line_text (choice_of n)
unfolding line_at
there-line n h =
    ext-default ∙ get_or-map line_text choices n no_masks ∙ line-at n h
  where
    ext-default : get_or (map line_text choices) n [] ≡ get_or (map line_text choices) n (line_text no_masks)
    ext-default = get_d_default (map line_text choices) n [] (line_text no_masks) (omega (arith, choices-length, length-map choices line_text))

pub no_line : (n : ℕ) → 4096 ≤ n → line_at n ≡ []
unfolding line_at
no_line n h = get_or-eq_default (map line_text choices) [] (omega (arith, choices-length, length-map choices line_text))
