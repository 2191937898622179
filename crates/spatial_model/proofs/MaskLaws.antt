-- The masks that a spatial joint is read with. Where rules 3 and 17 hold they are the joint's own (`masks-as-they-are`); restricting them once more leaves them as they are, of any words (`row_masks_at-spatial`).
use Prim.Native.Nat.{ℕ, ◌≤◌}
use mathlib.Core.Path.{◌≡◌, refl}
use mathlib.Core.Bool.{Bool, true, false, cond, ◌&&◌}
use mathlib.Core.List.{List}
use native.Mathlib.Omega.{arith}
use borrow.Author.Tests.{eqb-true, ltb-false, not-true}
use lib.Dec.{eqb, ltb, lit≤, lit<}
use Rattle.rows.specs.GenericJoint.{is_enabled}
use Rattle.rows.specs.RowIds.{no_masks}
use Rattle.spatial_rows.specs.SpatialMasks.{spatial_masks}
use Rattle.spatial_rows.proofs.SpatialMasksLaws.{spatial-twice, as-they-are}
use Rattle.multibody.specs.Rules.{at_most}
use Rattle.multibody.specs.Records.{word}
use Rattle.multibody.specs.JointRecords.{masks_of}
use Rattle.multibody.specs.JointRows.{row_masks_at}
use Rattle.multibody.proofs.RuleLaws.{both, all-at}
use Rattle.spatial_model.specs.Layout.{words_width, masks_place}
use Rattle.spatial_model.specs.Store.{masks_at, enabled_at}
use Rattle.spatial_model.specs.Refusals.{masks_fit, linear_alone}
use Rattle.spatial_model.specs.Spatial.{space}

-- a number is at most another
within : (most n : ℕ) → at_most most n ≡ true → n ≤ most
within most n h = ltb-false most n (not-true (ltb most n) h)

-- what rules 3 and 17 let through is read as it stands
pub masks-as-they-are : (words : List ℕ) (j : ℕ) → masks_fit words j ≡ true → linear_alone words j ≡ true → masks_at words j ≡ masks_of (word words_width words j) masks_place
unfolding masks_at masks_fit linear_alone
masks-as-they-are words j fit alone =
    let mask = word words_width words j in
    let locked = within 63 (mask 2) (all-at _ masks_place 4 fit 2 (lit≤ tt) (lit< tt)) in
    let a = both (at_most 7 (mask 3)) (at_most 7 (mask 4) && eqb (mask 5) 0) alone in
    let b = both (at_most 7 (mask 4)) (eqb (mask 5) 0) a.1 in
    let limit = within 7 (mask 3) a.0 in
    let motor = within 7 (mask 4) b.0 in
    as-they-are (masks_of mask masks_place) (omega arith) (omega arith) (omega arith) (eqb-true (mask 5) 0 b.1)

-- a joint's own masks
pub masks_at-spatial : (words : List ℕ) (j : ℕ) → spatial_masks (masks_at words j) ≡ masks_at words j
unfolding masks_at
masks_at-spatial words j = spatial-twice (masks_of (word words_width words j) masks_place)

-- and those that give it its rows
pub row_masks_at-spatial : (words : List ℕ) (j : ℕ) → spatial_masks (row_masks_at space words j) ≡ row_masks_at space words j
unfolding row_masks_at
row_masks_at-spatial words j = go (is_enabled (enabled_at words j))
  where
    go : (t : Bool) → spatial_masks (cond t (masks_at words j) no_masks) ≡ cond t (masks_at words j) no_masks
    go true = masks_at-spatial words j
    go false = refl
