-- `write_back` meets its contract.
use mathlib.Core.Path.{refl}
use Rattle.multibody.specs.Calls.{granted_of}
use Rattle.multibody.proofs.AnswerLaws.{not-granted, passed-on}
use Rattle.multibody.proofs.CallLaws.{refused-early, refused-unbuilt, granted-built, call-room}
use Rattle.spatial_model.proofs.SpatialLaws.{spatial-laws}
use Rattle.spatial_model.proofs.calls.write_back.Goals as goal

pub returns-in_err-storage_refusal : goal.returns-in_err-storage_refusal
returns-in_err-storage_refusal c =
    rw (passed-on _ c.from_residual.ensures.1) (refused-early spatial-laws _ _ _ c.in_err-storage_refusal.ensures (not-granted _))

pub returns-then-not-header : goal.returns-then-not-header
returns-then-not-header c =
    refused-unbuilt spatial-laws _ _ _ c.in_ok-storage_refusal.ensures refl refl c.if-not-header.true

pub write_back_all-requires : goal.write_back_all-requires
write_back_all-requires c =
    call-room spatial-laws _ _ _ c.in_ok-storage_refusal.ensures refl

pub returns : goal.returns
unfolding granted_of
returns c =
    rw c.write_back_all.ensures (granted-built spatial-laws _ _ _ c.in_ok-storage_refusal.ensures refl refl c.if-not-header.false)
