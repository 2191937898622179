-- `read_rows` meets its contract: the answer that the call gives, in the form in which the program gives it.
use mathlib.Core.Path.{refl, sym, ◌∙◌}
use native.Mathlib.Omega.{arith}
use Rattle.multibody.proofs.JointRowsLaws.{few-rows}
use Rattle.multibody.proofs.CountLaws.{joint-words}
use Rattle.multibody.proofs.RuleLaws.{no-rules}
use Rattle.multibody.proofs.AllJointsLaws.{rows-within}
use Rattle.multibody.proofs.AnswerLaws.{not-granted, passed-on}
use Rattle.multibody.proofs.CallLaws.{refused-early, refused-late, granted-late, not-built, is-built, no-joint, some-joint, call-room}
use Rattle.model.specs.Model.{model_of}
use Rattle.model.proofs.CallLaws.{rows-granted}
use Rattle.model.specs.Planar.{plane}
use Rattle.model.proofs.PlanarLaws.{planar-laws}
use borrow.Author.Tests.{not-true, not-false}
use Rattle.model.proofs.calls.read_rows.Goals as goal

pub returns-in_err-storage_refusal : goal.returns-in_err-storage_refusal
returns-in_err-storage_refusal c =
    let e = passed-on _ c.from_residual.ensures.1 in
    record { rows_value = rw e (refused-early planar-laws _ _ _ c.in_err-storage_refusal.ensures (not-granted _)); filled = rw e tt }

pub returns-then-not-header : goal.returns-then-not-header
returns-then-not-header c =
    record { rows_value = refused-late planar-laws _ _ _ c.in_ok-storage_refusal.ensures refl (not-built _ _ (not-true _ c.if-not-header.true)) (omega arith); filled = tt }

pub returns-then-j-joint_count : goal.returns-then-j-joint_count
returns-then-j-joint_count c =
    record { rows_value = refused-late planar-laws _ _ _ c.in_ok-storage_refusal.ensures refl (no-joint plane _ _ _ c.joint_count.ensures c.if-j-joint_count.true ∙ sym (is-built _ _ (not-false _ c.if-not-header.false))) (omega arith); filled = tt }

pub rows_before-requires : goal.rows_before-requires
rows_before-requires c =
    omega (arith, joint-words plane _ _ _ (rw c.joint_count.ensures at c.if-j-joint_count.false))

pub count_at-requires : goal.count_at-requires
count_at-requires c =
    joint-words plane _ _ _ (rw c.joint_count.ensures at c.if-j-joint_count.false)

pub rows_from-read-requires : goal.rows_from-read-requires
rows_from-read-requires c =
    let room = call-room planar-laws _ _ _ c.in_ok-storage_refusal.ensures refl in
    record { n_bound = few-rows planar-laws _ _ c.count_at.ensures.value; row_width_in_bounds = rows-within plane _ _ _ room c.joint_count.ensures c.if-j-joint_count.false c.rows_before.ensures c.count_at.ensures.value }

pub ids_at-requires : goal.ids_at-requires
ids_at-requires c = joint-words plane _ _ _ (rw c.joint_count.ensures at c.if-j-joint_count.false)

pub returns : goal.returns
returns c =
    let p = rows-granted c.args.joint (model_of c.args.header c.args.bodies.now c.args.words.now c.args.numbers.now) c.args.rows.now c.ids_at.ensures c.rows_before.ensures c.count_at.ensures.value c.rows_from-read.ensures
    (granted-late planar-laws _ _ _ c.in_ok-storage_refusal.ensures refl
    (is-built _ _ (not-false _ c.if-not-header.false) ∙ some-joint plane _ _ _ c.joint_count.ensures c.if-j-joint_count.false ∙ no-rules)) in
    record { rows_value = p.0; filled = p.1 }
