-- `is_present` meets its contract, test by test.
use Rattle.std.proofs.Common.{◌≡◌, true, false, not, ltb}
use Rattle.motor_table.proofs.record.is_present.Goals as goal
use Rattle.motor_table.proofs.record.is_present.Goals.{then-not-e, else-not-e, then-e-joints, else-e-joints}

pub returns-then-not-e-2 : goal.returns-then-not-e-2
returns-then-not-e-2 c =
    let e = c.args.e in
    elim c.if-e-joints.branch [
      | then-e-joints v ↦
          let q : not e.axis.negative ≡ true = cc in
          elim c.if-not-e.branch [
            | then-not-e w ↦ let p : ltb e.joint.size c.args.joints ≡ true = cc in simp (w.if-not-e.true, p, q)
            | else-not-e w ↦ cc
          ]
      | else-e-joints v ↦ cc
    ]

pub returns-else-not-e-2 : goal.returns-else-not-e-2
returns-else-not-e-2 c =
    let e = c.args.e in
    elim c.if-e-joints.branch [
      | then-e-joints v ↦
          let q : not e.axis.negative ≡ false = cc in
          elim c.if-not-e.branch [
            | then-not-e w ↦ let p : ltb e.joint.size c.args.joints ≡ true = cc in simp (w.if-not-e.true, p, q) c.if-not-e-2.false
            | else-not-e w ↦ cc
          ]
      | else-e-joints v ↦
          elim c.if-not-e.branch [
            | then-not-e w ↦ let p : ltb e.joint.size c.args.joints ≡ false = cc in simp (w.if-not-e.true, p) c.if-not-e-2.false
            | else-not-e w ↦ simp w.if-not-e.false c.if-not-e-2.false
          ]
    ]
