-- `build` meets its contract.
use mathlib.Core.Path.{refl, sym, ◌∙◌}
use mathlib.Core.Logic.{inl, inr}
use native.Mathlib.Omega.{arith}
use Rattle.multibody.specs.Calls.{granted_of}
use Rattle.multibody.proofs.RuleLaws.{no-rules}
use Rattle.multibody.proofs.AnswerLaws.{not-granted, passed-on}
use Rattle.multibody.proofs.CallLaws.{refused-early, refused-late, granted-late, no-seeds, seeds, call-sound, call-room}
use Rattle.model.proofs.PlanarLaws.{planar-laws}
use borrow.Author.Tests.{not-true, not-false}
use Rattle.model.proofs.calls.build.Goals as goal
use Rattle.model.proofs.calls.build.Goals.{else-not-header-via-then-not-header+else-reads_rows, else-not-header-via-else-not-header}

pub returns-in_err-storage_refusal : goal.returns-in_err-storage_refusal
returns-in_err-storage_refusal c =
    rw (passed-on _ c.from_residual.ensures.1) (refused-early planar-laws _ _ _ (rw c.finite_warm.ensures at c.in_err-storage_refusal.ensures) (not-granted _))

pub returns-then-reads_rows : goal.returns-then-reads_rows
returns-then-reads_rows c =
    refused-late planar-laws _ _ _ (rw c.finite_warm.ensures at c.in_ok-storage_refusal.ensures) refl
    (no-seeds _ _ _ _ (not-true _ c.if-not-header.true) (sym c.reads_rows.ensures ∙ c.if-reads_rows.true)) (omega arith)

pub build_all-total-requires : goal.build_all-total-requires
build_all-total-requires c =
    let e = c.in_ok-storage_refusal.ensures in
    record { fact = call-sound planar-laws _ _ _ e refl; fact_2 = call-room planar-laws _ _ _ e refl }

pub returns : goal.returns
unfolding granted_of
returns c =
    let made = c.build_all-total.ensures in
    rw (made.0, made.1)
    (granted-late planar-laws _ _ _ (rw c.finite_warm.ensures at c.in_ok-storage_refusal.ensures) refl
    (seeds _ _ _ _ (elim c.else-not-header.branch [ else-not-header-via-then-not-header+else-reads_rows w ↦ inr (sym w.reads_rows.ensures ∙ w.if-reads_rows.false) | else-not-header-via-else-not-header w ↦ inl (not-false _ w.if-not-header.false) ]) ∙ no-rules))
