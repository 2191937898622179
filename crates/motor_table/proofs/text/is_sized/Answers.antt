-- `is_sized` meets its contract, test by test.
use Rattle.std.proofs.Common.{inl, inr, ◌∙◌, arith}
use borrow.Author.Tests.{lt-leb}
use Rattle.motor_table.proofs.TextLaws.{not-sized-joint, not-sized-axis, sized-by-thousandths}
use Rattle.motor_table.proofs.text.is_sized.Goals as goal
use Rattle.motor_table.proofs.text.is_sized.Goals.{then-e-le-LARGEST_SIZE, else-e-le-LARGEST_SIZE}

pub returns-then-e-le-LARGEST_SIZE-2 : goal.returns-then-e-le-LARGEST_SIZE-2
returns-then-e-le-LARGEST_SIZE-2 c = sized-by-thousandths c.args.e c.if-e-le-LARGEST_SIZE-2.true.0 c.if-e-le-LARGEST_SIZE-2.true.1

pub returns-else-e-le-LARGEST_SIZE-2 : goal.returns-else-e-le-LARGEST_SIZE-2
returns-else-e-le-LARGEST_SIZE-2 c =
    elim c.if-e-le-LARGEST_SIZE.branch [
      | then-e-le-LARGEST_SIZE w ↦
          elim c.if-e-le-LARGEST_SIZE-2.either [
            | inl p ↦ w.t-3-is ∙ lt-leb _ _ p.1 ∙ not-sized-axis c.args.e p.0 p.1
            | inr h ↦ absurd (let z : ⊥ = omega (arith, h, w.if-e-le-LARGEST_SIZE.true) in z)
          ]
      | else-e-le-LARGEST_SIZE w ↦ w.t-3-is ∙ lt-leb _ _ w.if-e-le-LARGEST_SIZE.false ∙ not-sized-joint c.args.e w.if-e-le-LARGEST_SIZE.false
    ]
