-- A joint's first row as it is stored (document 02, R-10). It is none of its joint's contents: of words that differ in first rows alone, every definition reads the same (`alone-reworded` and those after it). Where a first row
-- is stored, the words differ in that alone (`put_alone`).
use Prim.Native.Nat.{ℕ, ◌+◌, ◌*◌}
use mathlib.Core.Path.{◌≡◌, ap}
use mathlib.Core.Bool.{true}
use mathlib.Core.List.{List, [], ◌∷◌}
use native.Mathlib.Omega.{arith}
use lib.ListN.{length-set}
use lib.Seq.{get_or-set_other}
use lib.Ieee.{Float}
use Rattle.multibody.specs.Rules.{rule}
use Rattle.multibody.proofs.RuleLaws.{all-cong}
use Rattle.multibody.proofs.Laws.{Reworded}
use Rattle.model.specs.Layout.{words_width, masks_place, first_row_place}
use Rattle.model.specs.Store.{put_first, joint_at, center_at, masks_at, enabled_at, enabled_of, body1_at, body2_at}
use Rattle.model.specs.Refusals.{masks_fit, joint_asks, center_fits}
use Rattle.model.specs.Planar.{planar}
use Rattle.model.specs.FirstRows.{FirstRowsAlone}

-- ---- words that differ in first rows alone

module _ {w w' : List ℕ} (a : FirstRowsAlone w w') where
  center-alone : (n : List Float) (i : ℕ) → center_at w' n i ≡ center_at w n i
  unfolding center_at
  center-alone n i = rw (a.other i 10 (omega arith))

  body1-alone : (i : ℕ) → body1_at w' i ≡ body1_at w i
  unfolding body1_at
  body1-alone i = a.other i 0 (omega arith)

  body2-alone : (i : ℕ) → body2_at w' i ≡ body2_at w i
  unfolding body2_at
  body2-alone i = a.other i 1 (omega arith)

  enabled-alone : (i : ℕ) → enabled_at w' i ≡ enabled_at w i
  unfolding enabled_at
  enabled-alone i = ap enabled_of (a.other i 9 (omega arith))

  asks-alone : (i : ℕ) → planar.joint_asks w' i ≡ planar.joint_asks w i
  asks-alone i = ap joint_asks (a.other i 10 (omega arith))

  contents-alone : (n : List Float) (joints : ℕ) → planar.content_rules w' n joints ≡ planar.content_rules w n joints
  unfolding center_fits
  contents-alone n joints = ap (λ t. rule 12 t ∷ []) (all-cong _ _ 0 joints (λ i _ _. rw (center-alone n i)))

  pub alone-reworded : Reworded planar w w'
  alone-reworded = record { size = a.size; body1 = body1-alone; body2 = body2-alone; enabled = enabled-alone; asks = asks-alone; contents = contents-alone }

  pub masks_at-alone : (i : ℕ) → masks_at w' i ≡ masks_at w i
  unfolding masks_at
  masks_at-alone i = rw (a.other i 2 (omega arith), a.other i 3 (omega arith), a.other i 4 (omega arith), a.other i 5 (omega arith))

  masks_fit-alone : (i : ℕ) → masks_fit w' i ≡ masks_fit w i
  unfolding masks_fit
  masks_fit-alone i = all-cong _ _ masks_place 4 (λ c g h. rw (a.other i c (omega (arith, h))))

  pub mask_rules-alone : (joints : ℕ) → planar.mask_rules w' joints true ≡ planar.mask_rules w joints true
  mask_rules-alone joints = ap (λ t. rule 3 t ∷ []) (all-cong _ _ 0 joints (λ i _ _. masks_fit-alone i))

  pub joint_at-alone : (n : List Float) (i : ℕ) → joint_at w' n i ≡ joint_at w n i
  unfolding joint_at
  joint_at-alone n i =
      rw (
        a.other i 2 (omega arith),
        a.other i 3 (omega arith),
        a.other i 4 (omega arith),
        a.other i 5 (omega arith),
        a.other i 6 (omega arith),
        a.other i 7 (omega arith),
        a.other i 8 (omega arith),
        a.other i 9 (omega arith),
        a.other i 10 (omega arith),
      )

-- ---- a first row stored

module _ (w : List ℕ) (j k : ℕ) where
  pub put_alone : FirstRowsAlone w (put_first w j k)
  unfolding put_first
  put_alone = record { size = length-set w (j * words_width + first_row_place) k; other = λ i c g. get_or-set_other w _ _ k 0 (λ e. omega (arith, e, g)) }

  pub first-reworded : Reworded planar w (put_first w j k)
  first-reworded = alone-reworded put_alone

  pub masks_at-first : (i : ℕ) → masks_at (put_first w j k) i ≡ masks_at w i
  masks_at-first = masks_at-alone put_alone

  pub mask_rules-first : (joints : ℕ) → planar.mask_rules (put_first w j k) joints true ≡ planar.mask_rules w joints true
  mask_rules-first = mask_rules-alone put_alone

pub joint_at-first : (w : List ℕ) (n : List Float) (j k i : ℕ) → joint_at (put_first w j k) n i ≡ joint_at w n i
joint_at-first w n j k i = joint_at-alone (put_alone w j k) n i
