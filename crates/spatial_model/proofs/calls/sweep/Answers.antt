-- `sweep` meets its contract.
use mathlib.Core.Path.{refl, sym, ◌∙◌}
use native.Mathlib.Omega.{arith}
use Rattle.multibody.proofs.RuleLaws.{no-rules}
use Rattle.multibody.proofs.AnswerLaws.{not-granted, passed-on}
use Rattle.multibody.proofs.CallLaws.{refused-early, refused-late, granted-late, too_many, few-rounds, not-built, is-built, call-sound, call-few-joints, call-room, sweep-counted}
use Rattle.spatial_model.specs.Model.{model_of}
use Rattle.spatial_model.specs.Spatial.{spatial}
use Rattle.spatial_model.proofs.SpatialLaws.{spatial-laws}
use borrow.Author.Tests.{not-true, not-false}
use Rattle.spatial_model.proofs.calls.sweep.Goals as goal

pub returns-in_err-storage_refusal : goal.returns-in_err-storage_refusal
returns-in_err-storage_refusal c =
    let e = passed-on _ c.from_residual.ensures.1 in
    record { rows_after = rw e (refused-early spatial-laws _ _ _ c.in_err-storage_refusal.ensures (not-granted _)); filled = rw e tt }

pub returns-then-n-gt-MOST_ROUNDS : goal.returns-then-n-gt-MOST_ROUNDS
returns-then-n-gt-MOST_ROUNDS c =
    record { rows_after = refused-late spatial-laws _ _ _ c.in_ok-storage_refusal.ensures refl (too_many _ _ c.if-n-gt-MOST_ROUNDS.true) (omega arith); filled = tt }

pub returns-then-not-header : goal.returns-then-not-header
returns-then-not-header c =
    record { rows_after = refused-late spatial-laws _ _ _ c.in_ok-storage_refusal.ensures refl (not-built _ _ (not-true _ c.if-not-header.true) ∙ sym (few-rounds _ _ c.if-n-gt-MOST_ROUNDS.false)) (omega arith); filled = tt }

pub sweep_all-requires : goal.sweep_all-requires
sweep_all-requires c =
    let e = c.in_ok-storage_refusal.ensures in
    record { fact = call-sound spatial-laws _ _ _ e refl; fact_2 = call-room spatial-laws _ _ _ e refl; numbers_in_bounds = call-few-joints spatial-laws _ _ _ e refl }

pub returns : goal.returns
returns c =
    let e = c.in_ok-storage_refusal.ensures in
    let p = sweep-counted spatial c.args.n (model_of c.args.header c.args.bodies.now c.args.words.now c.args.numbers.now) c.args.rows.now (call-few-joints spatial-laws _ _ _ e refl) c.sweep_all.ensures
    (granted-late spatial-laws _ _ _ e refl (few-rounds _ _ c.if-n-gt-MOST_ROUNDS.false ∙ is-built _ _ (not-false _ c.if-not-header.false) ∙ no-rules)) in
    record { rows_after = p.0; filled = p.1 }
