-- New masks of a joint (document 02, R-10): every other word is as it was (`put-kept`, `put-apart`), the joint has them (`masks-put`), rule 3 holds of them where they fit
-- (`rule-put`), and joints of equal contents that are given the same masks have equal contents (`named_put`).
use Prim.Native.Nat.{ℕ, ◌+◌, ◌*◌, ◌<◌, ◌≤◌}
use mathlib.Core.Path.{◌≡◌, refl, sym, ap, ◌∙◌}
use mathlib.Core.Logic.{◌⊎◌, ◌≢◌, inl, inr}
use mathlib.Core.Bool.{Bool, true, false, ◌&&◌}
use mathlib.Core.List.{List, [], ◌∷◌}
use native.Mathlib.Omega.{arith}
use borrow.Author.Tests.{eqb-true, eqb-false}
use lib.Dec.{eqb}
use lib.ListN.{length, set, get_or, length-set}
use lib.Seq.{get_or-set_same, get_or-set_other}
use lib.Ieee.{Float}
use Rattle.rows.specs.Named.{SameNamed}
use Rattle.rows.specs.declared.generic_joint.Masks.{Masks}
use Rattle.rows.specs.declared.joint_constraint_builder.ImpulseJoint.{ImpulseJoint}
use Rattle.rows.specs.declared.joint_velocity_constraint.WritebackId.{WritebackId}
use Rattle.multibody.specs.Rules.{rule, refusal, all, at_most}
use Rattle.multibody.proofs.RuleLaws.{Hold, all-cong, all-below, all-intro}
use Rattle.multibody.proofs.Laws.{Reworded, SameJoint}
use Rattle.model.specs.Layout.{words_width, masks_place}
use Rattle.model.specs.Records.{word}
use Rattle.model.specs.Store.{put_masks, joint_at, center_at, masks_at, enabled_at, body1_at, body2_at}
use Rattle.model.specs.Refusals.{all_axes, masks_fit, new_masks_fit, joint_asks, center_fits}
use Rattle.model.specs.Planar.{plane, planar}
use Rattle.multibody.proofs.Tests.{by_cases}

-- a word that is no mask
abbrev NoMask : ℕ → Type 0
NoMask c = (c < masks_place) ⊎ (masks_place + 4 ≤ c)

module _ (w : List ℕ) (j : ℕ) (ms : Masks) where
  -- a store to one of joint j's masks
  stored_other : (l : List ℕ) (d v i c : ℕ) → d < 4 → c < words_width → NoMask c → word words_width (set l (j * words_width + (masks_place + d)) v) i c ≡ word words_width l i c
  stored_other l d v i c h g (inl k) = get_or-set_other l _ _ v 0 (λ e. omega (arith, e, h, g, k))
  stored_other l d v i c h g (inr k) = get_or-set_other l _ _ v 0 (λ e. omega (arith, e, h, g, k))

  stored-apart : (l : List ℕ) (d v i c : ℕ) → d < 4 → c < words_width → i ≢ j → word words_width (set l (j * words_width + (masks_place + d)) v) i c ≡ word words_width l i c
  stored-apart l d v i c h g n = get_or-set_other l _ _ v 0 (λ e. n (omega (arith, e, h, g)))

  abbrev after1 : List ℕ
  after1 = set w (j * words_width + (masks_place + 0)) ms.locked_axes

  abbrev after2 : List ℕ
  after2 = set after1 (j * words_width + (masks_place + 1)) ms.limit_axes

  abbrev after3 : List ℕ
  after3 = set after2 (j * words_width + (masks_place + 2)) ms.motor_axes

  pub put-size : length (put_masks w j ms) ≡ length w
  unfolding put_masks
  put-size = simp length-set

  pub put-kept : (i c : ℕ) → c < words_width → NoMask c → word words_width (put_masks w j ms) i c ≡ word words_width w i c
  unfolding put_masks
  put-kept i c g k =
      stored_other after3 3 ms.coupled_axes i c (omega arith) g k ∙ stored_other after2 2 ms.motor_axes i c (omega arith) g k
      ∙ stored_other after1 1 ms.limit_axes i c (omega arith) g k ∙ stored_other w 0 ms.locked_axes i c (omega arith) g k

  pub put-apart : (i c : ℕ) → i ≢ j → c < words_width → word words_width (put_masks w j ms) i c ≡ word words_width w i c
  unfolding put_masks
  put-apart i c n g =
      stored-apart after3 3 ms.coupled_axes i c (omega arith) g n ∙ stored-apart after2 2 ms.motor_axes i c (omega arith) g n
      ∙ stored-apart after1 1 ms.limit_axes i c (omega arith) g n ∙ stored-apart w 0 ms.locked_axes i c (omega arith) g n

  -- ---- all but masks

  put-center : (n : List Float) (i : ℕ) → center_at (put_masks w j ms) n i ≡ center_at w n i
  unfolding center_at
  put-center n i = rw (put-kept i 10 (omega arith) (inr (omega arith)))

  put-body1 : (i : ℕ) → body1_at (put_masks w j ms) i ≡ body1_at w i
  unfolding body1_at
  put-body1 i = put-kept i 0 (omega arith) (inl (omega arith))

  put-body2 : (i : ℕ) → body2_at (put_masks w j ms) i ≡ body2_at w i
  unfolding body2_at
  put-body2 i = put-kept i 1 (omega arith) (inl (omega arith))

  pub put-enabled : (i : ℕ) → enabled_at (put_masks w j ms) i ≡ enabled_at w i
  unfolding enabled_at
  put-enabled i = rw (put-kept i 9 (omega arith) (inr (omega arith)))

  put-asks : (i : ℕ) → planar.joint_asks (put_masks w j ms) i ≡ planar.joint_asks w i
  put-asks i = ap joint_asks (put-kept i 10 (omega arith) (inr (omega arith)))

  put-contents : (n : List Float) (joints : ℕ) → planar.content_rules (put_masks w j ms) n joints ≡ planar.content_rules w n joints
  unfolding center_fits
  put-contents n joints = ap (λ t. rule 12 t ∷ []) (all-cong _ _ 0 joints (λ i _ _. rw (put-center n i)))

  pub put-reworded : Reworded planar w (put_masks w j ms)
  put-reworded = record { size = put-size; body1 = put-body1; body2 = put-body2; enabled = put-enabled; asks = put-asks; contents = put-contents }

  -- ---- other joints

  pub masks_at-apart : (i : ℕ) → i ≢ j → masks_at (put_masks w j ms) i ≡ masks_at w i
  unfolding masks_at
  masks_at-apart i n = rw (put-apart i 2 n (omega arith), put-apart i 3 n (omega arith), put-apart i 4 n (omega arith), put-apart i 5 n (omega arith))

  fit_apart : (i : ℕ) → i ≢ j → masks_fit (put_masks w j ms) i ≡ masks_fit w i
  unfolding masks_fit
  fit_apart i n = all-cong _ _ masks_place 4 (λ c g h. rw (put-apart i c n (omega (arith, h))))

  -- ---- the joint itself

  module _ (room : j * words_width + words_width ≤ length w) where
    pub masks-put : masks_at (put_masks w j ms) j ≡ ms
    unfolding put_masks masks_at
    masks-put =
        let a : List ℕ = set w (j * words_width + masks_place) ms.locked_axes in
        let b : List ℕ = set a (j * words_width + (masks_place + 1)) ms.limit_axes in
        let c : List ℕ = set b (j * words_width + (masks_place + 2)) ms.motor_axes in
        let d : List ℕ = set c (j * words_width + (masks_place + 3)) ms.coupled_axes in
        let l0 : get_or d (j * words_width + masks_place) 0 ≡ ms.locked_axes =
        get_or-set_other c _ _ _ 0 (λ e. omega (arith, e)) ∙ get_or-set_other b _ _ _ 0 (λ e. omega (arith, e)) ∙ get_or-set_other a _ _ _ 0 (λ e. omega (arith, e))
        ∙ get_or-set_same w _ _ 0 (omega (arith, room)) in
        let l1 : get_or d (j * words_width + (masks_place + 1)) 0 ≡ ms.limit_axes =
        get_or-set_other c _ _ _ 0 (λ e. omega (arith, e)) ∙ get_or-set_other b _ _ _ 0 (λ e. omega (arith, e)) ∙ get_or-set_same a _ _ 0 (simp length-set (omega (arith, room))) in
        let l2 : get_or d (j * words_width + (masks_place + 2)) 0 ≡ ms.motor_axes =
        get_or-set_other c _ _ _ 0 (λ e. omega (arith, e)) ∙ get_or-set_same b _ _ 0 (simp length-set (omega (arith, room))) in
        let l3 : get_or d (j * words_width + (masks_place + 3)) 0 ≡ ms.coupled_axes = get_or-set_same c _ _ 0 (simp length-set (omega (arith, room))) in
        rw (l0, l1, l2, l3)

pub joint_at-apart : (w : List ℕ) (n : List Float) (j i : ℕ) (ms : Masks) → i ≢ j → joint_at (put_masks w j ms) n i ≡ joint_at w n i
unfolding joint_at
joint_at-apart w n j i ms ne =
    rw (
      put-apart w j ms i 2 ne (omega arith),
      put-apart w j ms i 3 ne (omega arith),
      put-apart w j ms i 4 ne (omega arith),
      put-apart w j ms i 5 ne (omega arith),
      put-apart w j ms i 6 ne (omega arith),
      put-apart w j ms i 7 ne (omega arith),
      put-apart w j ms i 8 ne (omega arith),
      put-apart w j ms i 9 ne (omega arith),
      put-apart w j ms i 10 ne (omega arith),
    )

-- ---- rule 3

and-true : (d : Bool) → (d && true) ≡ d
and-true true = refl
and-true false = refl

and-true-4 : (a b c d : Bool) → (a && (b && (c && (d && true)))) ≡ (a && (b && (c && d)))
and-true-4 a b c d = rw (and-true d)

-- a joint's masks fit as the masks that it has
fit_of : (w : List ℕ) (j : ℕ) → masks_fit w j ≡ new_masks_fit (masks_at w j)
unfolding masks_fit new_masks_fit masks_at all
fit_of w j =
    and-true-4 (at_most all_axes (word words_width w j 2)) (at_most all_axes (word words_width w j 3)) (at_most all_axes (word words_width w j 4)) (at_most all_axes (word words_width w j 5))

pub rule-put : (w : List ℕ) (j joints : ℕ) (ms : Masks) → new_masks_fit ms ≡ true → j * words_width + words_width ≤ length w → Hold (planar.mask_rules w joints true)
    → Hold (planar.mask_rules (put_masks w j ms) joints true)
rule-put w j joints ms fit room h = (
  all-intro (masks_fit (put_masks w j ms)) 0 joints
      (λ i _ l. by_cases (eqb i j)
      (λ t. rw (eqb-true i j t) (fit_of (put_masks w j ms) j ∙ ap new_masks_fit (masks-put w j ms room) ∙ fit))
      (λ t. fit_apart w j ms i (eqb-false i j t) ∙ all-below (masks_fit w) joints h.0 i (omega (arith, l)))),
  tt,
)

pub unfit-rule : (words : List ℕ) (joints : ℕ) → refusal (planar.mask_rules words joints false) ≡ 3
unfolding refusal
unfit-rule words joints = refl

-- ---- contents

-- a joint with other masks
abbrev with_masks : ImpulseJoint → Masks → ImpulseJoint
with_masks j ms = record {
  «data» = record {
    local_frame1 = j.«data».local_frame1;
    local_frame2 = j.«data».local_frame2;
    masks = ms;
    limits = j.«data».limits;
    motors = j.«data».motors;
    softness = j.«data».softness;
    enabled = j.«data».enabled;
  };
  impulses = j.impulses;
  center = j.center;
}

joint-put : (w : List ℕ) (n : List Float) (j : ℕ) (ms : Masks) → joint_at (put_masks w j ms) n j ≡ with_masks (joint_at w n j) (masks_at (put_masks w j ms) j)
unfolding joint_at masks_at
joint-put w n j ms =
    rw (
      put-kept w j ms j 6 (omega arith) (inr (omega arith)),
      put-kept w j ms j 7 (omega arith) (inr (omega arith)),
      put-kept w j ms j 8 (omega arith) (inr (omega arith)),
      put-kept w j ms j 9 (omega arith) (inr (omega arith)),
      put-kept w j ms j 10 (omega arith) (inr (omega arith)),
    )

-- equal contents with equal masks
named-masks : (named : WritebackId → Type 0) (a b : ImpulseJoint) (ms ms' : Masks) → ms ≡ ms' → SameNamed named a b → SameNamed named (with_masks a ms) (with_masks b ms')
named-masks named a b ms ms' e s = record {
  frame1 = s.frame1;
  frame2 = s.frame2;
  masks = e;
  softness = s.softness;
  enabled = s.enabled;
  motor = s.motor;
  limits = s.limits;
  center = s.center;
  dof = s.dof;
}

pub named_put : {named : WritebackId → Type 0} (w w' : List ℕ) (n n' : List Float) (j : ℕ) (ms : Masks) → j * words_width + words_width ≤ length w → j * words_width + words_width ≤ length w'
    → SameJoint plane named w n w' n' j → SameJoint plane named (put_masks w j ms) n (put_masks w' j ms) n' j
named_put {named} w w' n n' j ms room room' s =
    let r : SameNamed named (joint_at (put_masks w j ms) n j) (joint_at (put_masks w' j ms) n' j) =
    rw (joint-put w n j ms, joint-put w' n' j ms) (named-masks named (joint_at w n j) (joint_at w' n' j) _ _ (masks-put w j ms room ∙ sym (masks-put w' j ms room')) s) in
    r
