-- `set_masks` meets its contract: masks that do not fit first, then the model's rules, then row storage for the new total, then the joint; and nothing is written before the last of them.
use mathlib.Core.Bool.{not}
use mathlib.Core.Path.{refl, ap}
use Rattle.multibody.specs.Calls.{granted_of}
use Rattle.model.specs.Planar.{plane}
use Rattle.multibody.proofs.RuleLaws.{holds, fails}
use Rattle.multibody.proofs.CountLaws.{joints-words, joint-words}
use Rattle.multibody.proofs.AnswerLaws.{not-granted, passed-on}
use Rattle.multibody.proofs.CallLaws.{few_joints}
use Rattle.model.proofs.NewMasks.{put-size}
use Rattle.multibody.proofs.MaskLaws.{unfit-refused, model-refused, short-refused, missing-refused, masks-granted}
use Rattle.model.proofs.PlanarLaws.{planar-laws}
use Rattle.model.proofs.calls.set_masks.Goals as goal

pub returns-then-not-new_masks_fit : goal.returns-then-not-new_masks_fit
returns-then-not-new_masks_fit c =
    unfit-refused planar-laws _ _ _ _ (fails c.new_masks_fit.ensures (ap not c.if-not-new_masks_fit.true)) (c.unfit_refusal.ensures _ _)

pub returns-in_err-model_refusal : goal.returns-in_err-model_refusal
returns-in_err-model_refusal c =
    rw (passed-on _ c.from_residual.ensures.1) (model-refused planar-laws _ _ _ _ (holds c.new_masks_fit.ensures (ap not c.if-not-new_masks_fit.false)) c.in_err-model_refusal.ensures (not-granted _))

pub rows_with-total-requires : goal.rows_with-total-requires
rows_with-total-requires c = rw c.joint_count-joints.ensures (joints-words plane _ _)

pub returns-then-total-row_capacity : goal.returns-then-total-row_capacity
returns-then-total-row_capacity c =
    short-refused planar-laws _ _ _ _ (holds c.new_masks_fit.ensures (ap not c.if-not-new_masks_fit.false)) c.in_ok-model_refusal.ensures refl c.joint_count-joints.ensures c.rows_with-total.ensures c.row_capacity.ensures
    c.if-total-row_capacity.true

pub returns-then-j-joints : goal.returns-then-j-joints
returns-then-j-joints c =
    missing-refused planar-laws _ _ _ _ (holds c.new_masks_fit.ensures (ap not c.if-not-new_masks_fit.false)) c.in_ok-model_refusal.ensures refl c.joint_count-joints.ensures c.rows_with-total.ensures c.row_capacity.ensures
    c.if-total-row_capacity.false c.if-j-joints.true

pub put_masks-requires : goal.put_masks-requires
put_masks-requires c =
    joint-words plane _ _ _ (rw c.joint_count-joints.ensures at c.if-j-joints.false)

pub store_firsts-requires : goal.store_firsts-requires
store_firsts-requires c =
    record { n_le_most_joints = rw c.joint_count-joints.ensures (few_joints planar-laws _ _ c.in_ok-model_refusal.ensures refl); words_width_in_bounds = rw (c.put_masks.ensures, put-size, c.joint_count-joints.ensures) (joints-words plane _ _) }

pub returns : goal.returns
unfolding granted_of
returns c =
    rw (c.store_firsts.ensures, c.put_masks.ensures, c.joint_count-joints.ensures)
    (masks-granted planar-laws _ _ _ _ (holds c.new_masks_fit.ensures (ap not c.if-not-new_masks_fit.false)) c.in_ok-model_refusal.ensures refl c.joint_count-joints.ensures c.rows_with-total.ensures c.row_capacity.ensures
    c.if-total-row_capacity.false c.if-j-joints.false)
