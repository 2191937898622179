-- No call of the planar model tells two models apart that differ in first rows alone (document 02, R-10): `first-rows-unread`. By what multibody shows of any kind, with what is to be shown of this one: new masks and stored first
-- rows leave words that differ in first rows alone so.
use Prim.Native.Nat.{ℕ, zero, suc, ◌+◌, ◌*◌}
use mathlib.Core.Path.{◌≡◌, sym, ◌∙◌}
use mathlib.Core.List.{List}
use native.Mathlib.Omega.{arith}
use borrow.Author.Tests.{eqb-true, eqb-false, ltb-true, ltb-false}
use lib.Dec.{eqb, ltb}
use lib.ListN.{length, set, get_or, length-set}
use lib.Seq.{get_or-set_same, get_or-set_other, set_out}
use Rattle.rows.specs.declared.generic_joint.Masks.{Masks}
use Rattle.multibody.specs.Model.{with_words}
use Rattle.multibody.specs.Counts.{rows_before, store_firsts}
use Rattle.multibody.proofs.Rewording.{SameWords, same_count}
use Rattle.multibody.proofs.FirstRowsUnread.{Unread, unread}
use Rattle.model.specs.Layout.{words_width, masks_place}
use Rattle.model.specs.Store.{put_first, put_masks}
use Rattle.model.specs.Planar.{plane}
use Rattle.model.specs.FirstRows.{FirstRowsAlone, FirstRowsUnread}
use Rattle.multibody.proofs.Tests.{by_cases}
use Rattle.model.proofs.FirstRows.{alone-reworded, masks_at-alone, mask_rules-alone, joint_at-alone, put_alone}
use Rattle.model.proofs.PlanarLaws.{planar-laws}

alone-words : {w w' : List ℕ} → FirstRowsAlone w w' → SameWords planar-laws w w'
alone-words a = record { reworded = alone-reworded a; masks = masks_at-alone a; joint = joint_at-alone a; mask-rules = mask_rules-alone a }

-- ---- stored first rows

after_first : {a b : List ℕ} (j k : ℕ) → FirstRowsAlone a b → FirstRowsAlone a (put_first b j k)
after_first {a} {b} j k s =
    let t = put_alone b j k in
    record { size = t.size ∙ s.size; other = λ i c g. t.other i c g ∙ s.other i c g }

after-firsts : {a : List ℕ} (n j : ℕ) (b : List ℕ) → FirstRowsAlone a b → FirstRowsAlone a (store_firsts plane j n b)
unfolding store_firsts
after-firsts zero j b s = s
after-firsts (suc n) j b s = after-firsts n (j + 1) (put_first b j (rows_before plane b j)) (after_first j (rows_before plane b j) s)

turned : {a b : List ℕ} → FirstRowsAlone a b → FirstRowsAlone b a
turned s = record { size = sym s.size; other = λ i c g. sym (s.other i c g) }

firsts-alone : {a b : List ℕ} (n : ℕ) → FirstRowsAlone a b → FirstRowsAlone (store_firsts plane 0 n a) (store_firsts plane 0 n b)
firsts-alone {a} {b} n s = turned (after-firsts n 0 a (turned (after-firsts n 0 b s)))

-- ---- new masks

-- lists of one length, the same at place q: so they are once one word is stored in both
record Alike (q : ℕ) (a b : List ℕ) : Type 0 where
  size : length b ≡ length a
  same : get_or b q 0 ≡ get_or a q 0

set-alike : {q : ℕ} {a b : List ℕ} (p v : ℕ) → Alike q a b → Alike q (set a p v) (set b p v)
set-alike {q} {a} {b} p v s = record {
  size = length-set b p v ∙ s.size ∙ sym (length-set a p v);
  same = by_cases (eqb q p)
      (λ t.
      let own = eqb-true q p t in
      by_cases (ltb p (length a))
      (λ h.
      let there = ltb-true p (length a) h in
      rw own (get_or-set_same b p v 0 (rw s.size there) ∙ sym (get_or-set_same a p v 0 there)))
      (λ h.
      let out = ltb-false p (length a) h in
      rw (set_out b p v (rw s.size out), set_out a p v out) s.same))
      (λ t.
      let apart = eqb-false q p t in
      get_or-set_other b p q v 0 apart ∙ s.same ∙ sym (get_or-set_other a p q v 0 apart));
}

masks-alone : {a b : List ℕ} (j : ℕ) (ms : Masks) → FirstRowsAlone a b → FirstRowsAlone (put_masks a j ms) (put_masks b j ms)
unfolding put_masks
masks-alone {a} {b} j ms s =
    let o = j * words_width in
    let all : (q : ℕ) → get_or b q 0 ≡ get_or a q 0 → Alike q (put_masks a j ms) (put_masks b j ms) =
    λ q e.
    let none : Alike q a b = record { size = s.size; same = e } in
    set-alike (o + (masks_place + 3)) ms.coupled_axes
    (set-alike (o + (masks_place + 2)) ms.motor_axes (set-alike (o + (masks_place + 1)) ms.limit_axes (set-alike (o + masks_place) ms.locked_axes none))) in
    record { size = (all 0 (s.other 0 0 (omega arith))).size; other = λ i c g. (all (i * words_width + c) (s.other i c g)).same }

-- ---- the claim

abbrev planar-unread : Unread planar-laws
planar-unread = record {
  Same = FirstRowsAlone;
  words = alone-words;
  masks = masks-alone;
  firsts = firsts-alone;
  rules = λ f m mark s. rw (same_count planar-laws (alone-reworded s) m.numbers);
  numbers = λ f m mark s. rw (same_count planar-laws (alone-reworded s) m.numbers);
}

pub first-rows-unread : FirstRowsUnread
first-rows-unread c m m' rows s =
    let e : m' ≡ with_words m m.built m'.words = rw (← s.params, ← s.mark, ← s.bodies, ← s.numbers) in
    let o = unread planar-unread m s.words rows c in
    rw e (o.answer, record { params = o.params; mark = o.mark; bodies = o.bodies; words = o.words; numbers = o.numbers }, o.rows)
