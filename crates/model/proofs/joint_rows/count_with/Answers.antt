-- `count_with` meets its contract: another joint has the rows that it had, the joint itself those of the new masks, where it is enabled.
use mathlib.Core.Path.{sym, ◌∙◌}
use Rattle.multibody.proofs.JointRowsLaws.{read-enabled, read-disabled}
use Rattle.multibody.proofs.MaskLaws.{count-apart, count-enabled, count_none}
use Rattle.model.proofs.NewMasks.{masks-put}
use Rattle.model.proofs.PlanarLaws.{planar-laws}
use Rattle.model.specs.Planar.{plane}
use Rattle.model.proofs.joint_rows.count_with.Goals as goal

pub returns-then-i-j : goal.returns-then-i-j
returns-then-i-j c = c.count_at.ensures.value ∙ sym (count-apart planar-laws _ _ _ _ c.if-i-j.true)

pub returns-then-is_enabled : goal.returns-then-is_enabled
returns-then-is_enabled c =
    let e = c.if-i-j.false in
    c.row_count.ensures ∙ count-enabled planar-laws _ _ _ _ (rw e (masks-put _ _ _ (rw (← e) c.requires))) (read-enabled plane _ _ c.enabled_at-enabled.ensures c.is_enabled.ensures c.if-is_enabled.true)

pub returns : goal.returns
returns c =
    count_none planar-laws _ _ _ _ (read-disabled plane _ _ c.enabled_at-enabled.ensures c.is_enabled.ensures c.if-is_enabled.false)
