-- `masks_fit` meets its contract. Before turn c, the masks from the c-th on decide.
use Prim.Native.Nat.{◌+◌, ◌-◌, ◌≤◌}
use mathlib.Core.Path.{◌≡◌}
use Rattle.spatial_model.specs.Layout.{words_width, masks_place}
use Rattle.multibody.specs.Records.{word}
use Rattle.spatial_model.specs.Refusals.{all_axes, four_masks, masks_fit}
use Rattle.multibody.specs.Rules.{all, at_most}
use Rattle.spatial_model.proofs.refusals.masks_fit.Given as goal

abbrev pub invariant-loop-c : goal.invariant-loop-c
invariant-loop-c l = (l.c ≤ four_masks) × (all (masks_place + l.c) (four_masks - l.c) (λ c'. at_most all_axes (word words_width l.words l.j c')) ≡ masks_fit l.words l.j)
