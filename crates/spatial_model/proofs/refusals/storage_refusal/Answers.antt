-- `storage_refusal` meets its contract: rule 8 is that of the room for rows.
use mathlib.Core.Path.{refl, ap}
use mathlib.Core.Bool.{◌&&◌}
use Rattle.spatial_model.specs.Model.{model_of}
use Rattle.spatial_model.specs.Spatial.{space}
use Rattle.multibody.proofs.AnswerLaws.{not-granted, passed-on, model-fails, storage-short, storage-holds}
use Rattle.multibody.proofs.CountLaws.{joints-words}
use Rattle.spatial_model.proofs.SpatialLaws.{spatial-laws}
use Rattle.spatial_model.proofs.refusals.storage_refusal.Goals as goal

pub returns-in_err-first_refusal : goal.returns-in_err-first_refusal
returns-in_err-first_refusal c =
    let a = c.args in
    rw (passed-on _ c.from_residual.ensures.1)
    (model-fails spatial-laws _ a.arguments a.rows.now (c.in_err-first_refusal.ensures a.header a.arguments refl (ap (λ t. t && a.arguments) c.finite_params.ensures)) (not-granted _))

pub rows_before-requires : goal.rows_before-requires
rows_before-requires c = rw c.joint_count.ensures (joints-words space _ _)

pub returns-then-rows_before-row_capacity : goal.returns-then-rows_before-row_capacity
returns-then-rows_before-row_capacity c =
    let a = c.args in
    storage-short spatial-laws (model_of a.header a.bodies.now a.words.now a.numbers.now) a.arguments a.rows.now
    (c.in_ok-first_refusal.ensures a.header a.arguments refl (ap (λ t. t && a.arguments) c.finite_params.ensures)) c.joint_count.ensures c.rows_before.ensures c.row_capacity.ensures c.if-rows_before-row_capacity.true

pub returns : goal.returns
returns c =
    let a = c.args in
    storage-holds spatial-laws (model_of a.header a.bodies.now a.words.now a.numbers.now) a.arguments a.rows.now
    (c.in_ok-first_refusal.ensures a.header a.arguments refl (ap (λ t. t && a.arguments) c.finite_params.ensures)) c.joint_count.ensures c.rows_before.ensures c.row_capacity.ensures c.if-rows_before-row_capacity.false
