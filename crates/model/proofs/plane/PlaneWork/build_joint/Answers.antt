-- `build_joint` meets its contract: by that of `build_enabled`, and a joint that is not enabled makes no row.
use mathlib.Core.Path.{sym, ap}
use mathlib.Core.Bool.{not}
use borrow.Author.Tests.{not-true, not-false}
use Rattle.multibody.proofs.JointRowsLaws.{read-enabled, read-disabled, count-disabled, build-disabled}
use Rattle.model.specs.Planar.{plane}
use Rattle.model.proofs.PlanarLaws.{planar-laws}
use Rattle.model.proofs.plane.PlaneWork.build_joint.Goals as goal

pub build_enabled-requires : goal.build_enabled-requires
build_enabled-requires c =
    let pre = c.requires in
    record { words_width_in_bounds = pre.words_width_in_bounds; numbers_width_in_bounds = pre.numbers_width_in_bounds; present = pre.present; present_2 = pre.present_2; row_width_in_bounds = pre.row_width_in_bounds; j_value = read-enabled plane _ _ c.enabled_at.ensures c.is_enabled.ensures (not-false _ (ap not c.if-not-is_enabled.false)) }

pub returns-then-not-is_enabled : goal.returns-then-not-is_enabled
returns-then-not-is_enabled c =
    let off = read-disabled plane _ _ c.enabled_at.ensures c.is_enabled.ensures (not-true _ (ap not c.if-not-is_enabled.true)) in
    (sym (count-disabled planar-laws _ _ off), build-disabled plane _ _ _ _ _ _ _ _ _ off)

pub returns : goal.returns
returns c = c.build_enabled.ensures
