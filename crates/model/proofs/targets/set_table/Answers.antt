use mathlib.Core.Path.{refl, sym, ◌∙◌}
use native.Mathlib.Omega.{arith}
use Rattle.motor_table.specs.Tables.{most_records}
use Rattle.motor_table.proofs.GrantedLaws.{not_full, not-faulty, next-answer}
use Rattle.model.proofs.MotorTargetLaws.{no_record, record-set, record-there}
use Rattle.model.proofs.targets.set_table.Goals as goal

pub loop-i-init : goal.loop-i-init
loop-i-init c = (omega arith, refl, c.requires.1, refl)

pub set_record-requires : goal.set_record-requires
set_record-requires c =
    record-there c.args.joints most_records c.args.n c.loop-i.i c.args.text.now c.loop-i.at c.loop-i.invariant.2 c.loop-i.invariant.0 c.loop-i-test.true _
    (sym c.record_at.ensures ∙ c.in-Ok.is) c.loop-i.numbers (omega (arith, c.loop-i.invariant.1, c.requires.0))

pub returns-in_default : goal.returns-in_default
returns-in_default c =
    absurd (not-faulty c.args.joints most_records c.args.n c.loop-i.i c.args.text.now c.loop-i.at c.loop-i.invariant.2 c.loop-i.invariant.0 c.loop-i-test.true _
    (sym c.record_at.ensures ∙ c.in_default.is))

pub loop-i-preserved : goal.loop-i-preserved
loop-i-preserved c =
    let joints = c.args.joints in
    let n = c.args.n in
    let text = c.args.text.now in
    let i = c.loop-i.i in
    let at = c.loop-i.at in
    let v = c.loop-i.invariant in
    let h = c.loop-i-test.true in
    let q = sym c.record_at.ensures ∙ c.in-Ok.is in
    let room = not_full joints most_records n i text at v.2 v.0 h in (
      omega arith,
      c.set_record.auto.numbers ∙ v.1,
      next-answer joints most_records n i text at v.2 v.0 h _ q,
      rw c.set_record.ensures (record-set joints most_records n i text at v.2 v.0 h _ q _) ∙ v.3,
    )

pub returns : goal.returns
returns c = sym (no_record _ _ _ _ c.loop-i.invariant.2 c.loop-i-test.false) ∙ c.loop-i.invariant.3
