-- `push` meets its contract, byte by byte.
use Rattle.std.proofs.Common.{◌≡◌, arith}
use Rattle.motor_table.specs.Scan.{push_of}
use Rattle.motor_table.proofs.NumberLaws.{is_digit_lem, past-digits, before-digits, is-plus, is-minus, no_sign}
use Rattle.motor_table.proofs.whole_number.push.Goals as goal
use Rattle.motor_table.proofs.whole_number.push.Goals.{in_default-via-then-b-lt48, in_default-via-else-b-lt48+else-b-lt58}

pub returns-in-48-to-57 : goal.returns-in-48-to-57
unfolding push_of
returns-in-48-to-57 c = simp (is_digit_lem c.args.b (omega arith) (omega arith)) c.with_digit.ensures

pub returns-in-43 : goal.returns-in-43
unfolding push_of
returns-in-43 c = simp (before-digits c.args.b (omega arith), (is-plus c.args.b c.in-43.is).0, (is-plus c.args.b c.in-43.is).1) c.with_sign.ensures

pub returns-in-45 : goal.returns-in-45
unfolding push_of
returns-in-45 c =
    let other : c.args.b ≡ 0x2b → ⊥ = λ z. omega (arith, c.in-45.is) in
    simp (before-digits c.args.b (omega arith), (is-minus c.args.b other c.in-45.is).0, (is-minus c.args.b other c.in-45.is).1) c.with_sign-in-45.ensures

pub returns-in_default : goal.returns-in_default
unfolding push_of
returns-in_default c =
    elim c.in_default.branch [
      | in_default-via-then-b-lt48 w ↦ simp (before-digits c.args.b (omega arith), no_sign c.args.b (λ z. omega arith) (λ z. omega arith)) c.no_number.ensures
      | in_default-via-else-b-lt48+else-b-lt58 w ↦
          let past = past-digits c.args.b (omega arith) in
          simp (past.0, past.1) c.no_number.ensures
    ]
