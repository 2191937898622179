-- `frame` meets its contract: its rules in order, then its substeps; where a new pose is not finite all is as it was.
use Rattle.std.proofs.Common.{sym, refl, ap, ◌∙◌}
use Rattle.multibody.proofs.AnswerLaws.{not-granted, passed-on}
use Rattle.multibody.proofs.CallLaws.{call-sound, call-few-joints, call-room}
use Rattle.model.proofs.PlanarLaws.{planar-laws}
use Rattle.frames.specs.Frames.{Progress}
use Rattle.frames.proofs.FrameLaws.{refused-front, refused-rounds, refused_none, refused-many, refused-step, refused-pose, frame-grants, all-hold, start-steps, granted-frame}
use Rattle.frames.proofs.FrameRefused.{no-refusal}
use Rattle.frames.proofs.frame.frame.Goals as goal

pub returns-in_err-front_refusal-clause-rows_after : goal.returns-in_err-front_refusal-clause-rows_after
returns-in_err-front_refusal-clause-rows_after c =
    rw (passed-on _ c.from_residual.ensures.1) (refused-front _ _ _ _ _ c.in_err-front_refusal.ensures (not-granted _))

pub returns-then-sweeps-gt-MOST_ROUNDS-clause-rows_after : goal.returns-then-sweeps-gt-MOST_ROUNDS-clause-rows_after
returns-then-sweeps-gt-MOST_ROUNDS-clause-rows_after c = refused-rounds _ _ _ _ _ c.in_ok-front_refusal.ensures refl c.if-sweeps-gt-MOST_ROUNDS.true

pub returns-then-n-eq0 : goal.returns-then-n-eq0
returns-then-n-eq0 c = record { rows_after = refused_none _ _ _ _ _ c.in_ok-front_refusal.ensures refl c.if-sweeps-gt-MOST_ROUNDS.false c.if-n-eq0.true; filled = tt }

pub returns-then-n-gt-MOST_SUBSTEPS-clause-rows_after : goal.returns-then-n-gt-MOST_SUBSTEPS-clause-rows_after
returns-then-n-gt-MOST_SUBSTEPS-clause-rows_after c =
    refused-many _ _ _ _ _ c.in_ok-front_refusal.ensures refl c.if-sweeps-gt-MOST_ROUNDS.false c.if-n-eq0.false c.if-n-gt-MOST_SUBSTEPS.true

pub returns-then-not-is_step-clause-rows_after : goal.returns-then-not-is_step-clause-rows_after
returns-then-not-is_step-clause-rows_after c =
    refused-step _ _ _ _ _ c.in_ok-front_refusal.ensures refl c.if-sweeps-gt-MOST_ROUNDS.false c.if-n-eq0.false c.if-n-gt-MOST_SUBSTEPS.false (rw c.nearest_u32_to_f32.ensures at (sym c.is_step.ensures ∙ c.if-not-is_step.true))

pub substeps_or_back-requires : goal.substeps_or_back-requires
substeps_or_back-requires c =
    let e = c.in_ok-front_refusal.ensures in
    record {
      bodies_bound = (call-sound planar-laws _ _ _ e refl).few;
      numbers_bound = call-few-joints planar-laws _ _ _ e refl;
      room = call-room planar-laws _ _ _ e refl;
      n_le_most_substeps = c.if-n-gt-MOST_SUBSTEPS.false;
    }

pub returns-in_default-clause-rows_after : goal.returns-in_default-clause-rows_after
returns-in_default-clause-rows_after c =
    let back = c.in_default.ensures in
    let start = start-steps _ _ _ _ _ _ _ _ c.with_dt-h.ensures c.nearest_u32_to_f32.ensures in
    let step = rw c.nearest_u32_to_f32.ensures at (sym c.is_step.ensures ∙ c.if-not-is_step.false) in
    rw (back.1, back.2)
    (refused-pose _ _ _ _ _ c.in_ok-front_refusal.ensures refl c.if-sweeps-gt-MOST_ROUNDS.false c.if-n-eq0.false c.if-n-gt-MOST_SUBSTEPS.false step (ap (λ (p : Progress). p.finite) (sym start) ∙ back.0))

pub returns-in_err-counts-clause-rows_after : goal.returns-in_err-counts-clause-rows_after
returns-in_err-counts-clause-rows_after c =
    let all = c.in-Some.ensures.0 ∙ start-steps _ _ _ _ _ _ _ _ c.with_dt-h.ensures c.nearest_u32_to_f32.ensures in
    let step = rw c.nearest_u32_to_f32.ensures at (sym c.is_step.ensures ∙ c.if-not-is_step.false) in
    let held = all-hold _ _ _ _ _ c.in_ok-front_refusal.ensures refl c.if-sweeps-gt-MOST_ROUNDS.false c.if-n-eq0.false c.if-n-gt-MOST_SUBSTEPS.false step (ap (λ (p : Progress). p.finite) (sym all)) in
    absurd (no-refusal _ _ _ _ _ held _ (rw c.in_err-counts.was at (granted-frame _ _ _ _ _ all c.write_back.ensures)))

pub returns-clause-rows_after : goal.returns-clause-rows_after
returns-clause-rows_after c =
    let all = c.in-Some.ensures.0 ∙ start-steps _ _ _ _ _ _ _ _ c.with_dt-h.ensures c.nearest_u32_to_f32.ensures in
    let step = rw c.nearest_u32_to_f32.ensures at (sym c.is_step.ensures ∙ c.if-not-is_step.false) in
    rw c.with_dt.ensures
    ((rw c.in_ok-counts.was at (granted-frame _ _ _ _ _ all c.write_back.ensures))
    ∙ frame-grants _ _ _ _ _ c.in_ok-front_refusal.ensures refl c.if-sweeps-gt-MOST_ROUNDS.false c.if-n-eq0.false c.if-n-gt-MOST_SUBSTEPS.false step (ap (λ (p : Progress). p.finite) (sym all)))
