-- Words of joints changed in masks and first rows alone. Rules 1 to 7 and those of the kind hold after such a change where the new masks' rules hold
-- (`held-reworded`), and two studies that agree on a set still agree where the contents of the set's joints are still equal (`agree-reworded`). First rows stored
-- (`firsts_same`) are such a change, which no count, no id and no contents tells; new masks of a joint are one (`masks-reworded`).
use Prim.Native.Nat.{ℕ, zero, suc, ◌+◌, ◌<◌, ◌≤◌}
use mathlib.Core.Path.{◌≡◌, refl, sym, ap, ◌∙◌}
use mathlib.Core.Bool.{Bool, true}
use mathlib.Core.List.{List}
use native.Mathlib.Omega.{arith}
use borrow.Author.Tests.{eqb-true, eqb-false}
use lib.Dec.{eqb}
use lib.Ieee.{Float}
use Rattle.rows.specs.declared.joint_velocity_constraint.WritebackId.{WritebackId}
use Rattle.multibody.specs.Model.{Model, with_words}
use Rattle.multibody.specs.System.{System}
use Rattle.multibody.specs.JointRows.{row_masks_at, joint_ids, row_count}
use Rattle.multibody.specs.Counts.{joint_count, rows_before, total_rows, store_firsts}
use Rattle.multibody.specs.Refusals.{bodies_present, bodies_apart, finite_joint}
use Rattle.multibody.specs.Studies.{Ties, OfSet, Agree}
use Rattle.multibody.proofs.Tests.{by_cases}
use Rattle.multibody.proofs.RuleLaws.{Hold, all-cong}
use Rattle.multibody.proofs.Laws.{Laws, Reworded}
use Rattle.multibody.proofs.CountLaws.{joint-words}
use Rattle.multibody.proofs.RefusalLaws.{RulesHold}

module _ {sys : System} (laws : Laws sys) where
  open sys use {store, mask_rules, content_rules, NewMasks, fit_masks, put_masks}
  open store use {joint_at, masks_at, enabled_at, body1_at, body2_at, SameNamed, put_first}

  -- ---- counts and rules

  pub same_count : {w w' : List ℕ} → Reworded sys w w' → (n : List Float) → joint_count store w' n ≡ joint_count store w n
  unfolding joint_count
  same_count r n = rw r.size

  pub held-reworded : (m : Model) {w : List ℕ} → Reworded sys m.words w → RulesHold laws m → Hold (mask_rules w (joint_count store m.words m.numbers) true) → (mark : Bool)
      → RulesHold laws (with_words m mark w)
  unfolding bodies_present bodies_apart finite_joint
  held-reworded m {w} r h fit mark =
      let n : ℕ = joint_count store m.words m.numbers in
      let e = same_count r m.numbers in
      record {
        bodies = h.bodies;
        joints = rw e h.joints;
        masks = rw e fit;
        present = rw e (all-cong _ _ 0 n (λ j _ _. rw (r.body1 j, r.body2 j)) ∙ h.present);
        apart = rw e (all-cong _ _ 0 n (λ j _ _. rw (r.body1 j, r.body2 j)) ∙ h.apart);
        finite-params = h.finite-params;
        finite-bodies = h.finite-bodies;
        finite-joints = rw e (all-cong _ _ 0 n (λ j _ _. rw (r.asks j)) ∙ h.finite-joints);
        contents = rw (e, r.contents m.numbers n) h.contents;
        dt = h.dt;
      }

  -- ---- two studies

  module _ (set : ℕ → Bool) (m : Model) {w : List ℕ} (r : Reworded sys m.words w) (mark : Bool) (j : ℕ) where
    of-set-now : OfSet store set m j → OfSet store set (with_words m mark w) j
    of-set-now o = record { there = rw (same_count r m.numbers) o.there; inside1 = rw (r.body1 j) o.inside1; inside2 = rw (r.body2 j) o.inside2 }

    of-set-then : OfSet store set (with_words m mark w) j → OfSet store set m j
    of-set-then o = record {
      there = rw (same_count r m.numbers) at o.there;
      inside1 = rw (r.body1 j) at o.inside1;
      inside2 = rw (r.body2 j) at o.inside2;
    }

    ties-then : Ties store (with_words m mark w) j → Ties store m j
    ties-then t = record {
      there = rw (same_count r m.numbers) at t.there;
      enabled = rw (r.enabled j) at t.enabled;
      body1 = rw (r.body1 j) at t.body1;
      body2 = rw (r.body2 j) at t.body2;
    }

  module _ (set : ℕ → Bool) {named : ℕ → WritebackId → Type 0} (m m' : Model) {w w' : List ℕ} (r : Reworded sys m.words w) (r' : Reworded sys m'.words w') (mark mark' : Bool) where
    pub agree-reworded : Agree store set named m m' → ((j : ℕ) → OfSet store set m j → SameNamed (named j) (joint_at w m.numbers j) (joint_at w' m'.numbers j))
        → Agree store set named (with_words m mark w) (with_words m' mark' w')
    agree-reworded a same = record {
      params = a.params;
      closed = λ j t. ap set (r.body1 j) ∙ a.closed j (ties-then set m r mark j t) ∙ sym (ap set (r.body2 j));
      closed' = λ j t. ap set (r'.body1 j) ∙ a.closed' j (ties-then set m' r' mark' j t) ∙ sym (ap set (r'.body2 j));
      present = a.present;
      poses = a.poses;
      velocities = a.velocities;
      joints = λ j o. of-set-now set m' r' mark' j (a.joints j (of-set-then set m r mark j o));
      joints' = λ j o. of-set-now set m r mark j (a.joints' j (of-set-then set m' r' mark' j o));
      bodies1 = λ j o. r.body1 j ∙ a.bodies1 j (of-set-then set m r mark j o) ∙ sym (r'.body1 j);
      bodies2 = λ j o. r.body2 j ∙ a.bodies2 j (of-set-then set m r mark j o) ∙ sym (r'.body2 j);
      contents = λ j o. same j (of-set-then set m r mark j o);
    }

  -- ---- first rows

  -- words that differ in first rows at most
  pub record SameWords (w w' : List ℕ) : Type 0 where
    pub reworded : Reworded sys w w'
    pub masks : (i : ℕ) → masks_at w' i ≡ masks_at w i
    pub joint : (n : List Float) (i : ℕ) → joint_at w' n i ≡ joint_at w n i
    pub mask-rules : (joints : ℕ) → mask_rules w' joints true ≡ mask_rules w joints true

  pub then-reworded : {a b c : List ℕ} → Reworded sys a b → Reworded sys b c → Reworded sys a c
  then-reworded r s = record {
    size = s.size ∙ r.size;
    body1 = λ i. s.body1 i ∙ r.body1 i;
    body2 = λ i. s.body2 i ∙ r.body2 i;
    enabled = λ i. s.enabled i ∙ r.enabled i;
    asks = λ i. s.asks i ∙ r.asks i;
    contents = λ n joints. s.contents n joints ∙ r.contents n joints;
  }

  first-same : (w : List ℕ) (j k : ℕ) → SameWords w (put_first w j k)
  first-same w j k = record {
    reworded = laws.put_first-reworded w j k;
    masks = laws.masks_at-put_first w j k;
    joint = λ n. laws.joint_at-put_first w n j k;
    mask-rules = laws.mask_rules-put_first w j k;
  }

  no_change : (w : List ℕ) → SameWords w w
  no_change w = record {
    reworded = record { size = refl; body1 = λ i. refl; body2 = λ i. refl; enabled = λ i. refl; asks = λ i. refl; contents = λ n joints. refl };
    masks = λ i. refl;
    joint = λ n i. refl;
    mask-rules = λ joints. refl;
  }

  pub firsts_same : (n j : ℕ) (w : List ℕ) → SameWords w (store_firsts store j n w)
  unfolding store_firsts
  firsts_same zero j w = no_change w
  firsts_same (suc n) j w =
      let s = first-same w j (rows_before store w j) in
      let t = firsts_same n (j + 1) (put_first w j (rows_before store w j)) in
      record {
        reworded = then-reworded s.reworded t.reworded;
        masks = λ i. t.masks i ∙ s.masks i;
        joint = λ k i. t.joint k i ∙ s.joint k i;
        mask-rules = λ joints. t.mask-rules joints ∙ s.mask-rules joints;
      }

  -- they have the same ids, and as many rows before each joint
  module _ {w w' : List ℕ} (s : SameWords w w') where
    pub ids-kept : (i : ℕ) → joint_ids store w' i ≡ joint_ids store w i
    unfolding joint_ids row_masks_at
    ids-kept i = rw (s.masks i, s.reworded.enabled i)

    pub rows-kept : (j : ℕ) → rows_before store w' j ≡ rows_before store w j
    unfolding rows_before row_count
    rows-kept zero = refl
    rows-kept (suc j) = rw (rows-kept j, ids-kept j)

  pub first-rows-kept : (w : List ℕ) (j k i : ℕ) → rows_before store (put_first w j k) i ≡ rows_before store w i
  first-rows-kept w j k i = rows-kept (first-same w j k) i

  -- load, on two studies that agree
  pub agree-firsts : (set : ℕ → Bool) {named : ℕ → WritebackId → Type 0} (m m' : Model) (n n' : ℕ) (mark mark' : Bool) → Agree store set named m m'
      → Agree store set named (with_words m mark (store_firsts store 0 n m.words)) (with_words m' mark' (store_firsts store 0 n' m'.words))
  agree-firsts set m m' n n' mark mark' a =
      let s = firsts_same n 0 m.words in
      let s' = firsts_same n' 0 m'.words in
      agree-reworded set m m' s.reworded s'.reworded mark mark' a (λ j o. rw (s.joint m.numbers j, s'.joint m'.numbers j) (a.contents j o))

  -- ---- new masks of a joint

  -- the words that a granted change of masks leaves
  abbrev pub masked : Model → ℕ → NewMasks → List ℕ
  masked m j ms = store_firsts store 0 (joint_count store m.words m.numbers) (put_masks m.words j ms)

  module _ (m : Model) (j : ℕ) (ms : NewMasks) where
    masked-firsts : SameWords (put_masks m.words j ms) (masked m j ms)
    masked-firsts = firsts_same (joint_count store m.words m.numbers) 0 (put_masks m.words j ms)

    pub masks-reworded : Reworded sys m.words (masked m j ms)
    masks-reworded = then-reworded (laws.put_masks-reworded m.words j ms) masked-firsts.reworded

    -- where the masks fit and the joint is there, the rules hold after it
    pub masks-held : RulesHold laws m → fit_masks ms ≡ true → j < joint_count store m.words m.numbers → (mark : Bool) → RulesHold laws (with_words m mark (masked m j ms))
    masks-held h fit there mark =
        held-reworded m masks-reworded h
        (rw (masked-firsts.mask-rules (joint_count store m.words m.numbers))
        (laws.mask_rules-put_masks m.words j (joint_count store m.words m.numbers) ms fit (joint-words store m.words m.numbers j there) h.masks)) mark

    -- masks of a missing joint are counted nowhere
    rows-below : (k : ℕ) → k ≤ j → rows_before store (put_masks m.words j ms) k ≡ rows_before store m.words k
    unfolding rows_before row_count joint_ids row_masks_at
    rows-below zero l = refl
    rows-below (suc k) l =
        rw (rows-below k (omega (arith, l)), laws.masks_at-put_masks-other m.words j k ms (λ e. omega (arith, e, l)), (laws.put_masks-reworded m.words j ms).enabled k)

    pub missing-total : joint_count store m.words m.numbers ≤ j → total_rows store (put_masks m.words j ms) m.numbers ≡ total_rows store m.words m.numbers
    missing-total l =
        let e = same_count (laws.put_masks-reworded m.words j ms) m.numbers in
        rw e (rows-below (joint_count store m.words m.numbers) l)

  -- two studies given the same masks of one joint still agree
  module _ (set : ℕ → Bool) {named : ℕ → WritebackId → Type 0} (m m' : Model) (j : ℕ) (ms : NewMasks) (a : Agree store set named m m') where
    masked-contents : (i : ℕ) → OfSet store set m i → SameNamed (named i) (joint_at (put_masks m.words j ms) m.numbers i) (joint_at (put_masks m'.words j ms) m'.numbers i)
    masked-contents i o = by_cases (eqb i j)
        (λ t.
        let e = eqb-true i j t in
        rw (← e)
        (laws.named-put_masks m.words m'.words m.numbers m'.numbers i ms (joint-words store m.words m.numbers i o.there)
        (joint-words store m'.words m'.numbers i (a.joints i o).there) (a.contents i o)))
        (λ t.
        let n = eqb-false i j t in
        rw (laws.joint_at-put_masks-other m.words m.numbers j i ms n, laws.joint_at-put_masks-other m'.words m'.numbers j i ms n) (a.contents i o))

    pub agree-masked : (mark mark' : Bool) → Agree store set named (with_words m mark (masked m j ms)) (with_words m' mark' (masked m' j ms))
    agree-masked mark mark' =
        agree-reworded set m m' (masks-reworded m j ms) (masks-reworded m' j ms) mark mark' a
        (λ i o. rw ((masked-firsts m j ms).joint m.numbers i, (masked-firsts m' j ms).joint m'.numbers i) (masked-contents i o))
