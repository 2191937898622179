use borrow.Author.Tests.{eq-eqb, ne_eqb, lt-ltb, le-ltb}
use native.Mathlib.Omega.{arith}
use Prim.Native.Nat.{◌≤◌, ◌<◌}
use Rattle.model.specs.Layout.{numbers_width, motor_width}
use Rattle.study_reader.specs.Items.{field_numbers}
use Rattle.study_reader.proofs.ReadLaws.{field-place-small, field-stride-small, small_product}
use Rattle.study_reader.proofs.items.read_field.Goals as goal

pub returns-then-f-eq0 : goal.returns-then-f-eq0
unfolding field_numbers
returns-then-f-eq0 c =
    let b1 = c.before in
    let fo = b1 in
    rw (c.read_numbers.ensures, ← fo.field_of-f.ensures, eq-eqb _ _ b1.if-f-eq0.true)

pub returns-then-axis-gt2 : goal.returns-then-axis-gt2
unfolding field_numbers
returns-then-axis-gt2 c =
    let ao = c.before in
    let nw = ao.before in
    let b1 = nw.before in
    let fo = b1 in
    rw (← fo.field_of-f.ensures, ← nw.next_word-v.ensures, ← ao.axis_of-axis.ensures, ne_eqb _ _ b1.if-f-eq0.false, lt-ltb _ _ c.if-axis-gt2.true)

pub overflow_mul-axis : goal.overflow_mul-axis
overflow_mul-axis c =
    let b2 = c.before in
    let fo = b2 in
    let s : fo.field_of-f.result.stride ≤ motor_width = rw fo.field_of-f.ensures (field-stride-small _ _) in
    omega (arith, small_product b2.if-axis-gt2.false s)

pub overflow_add-f : goal.overflow_add-f
overflow_add-f c =
    let b2 = c.before.before in
    let fo = b2 in
    let s : fo.field_of-f.result.stride ≤ motor_width = rw fo.field_of-f.ensures (field-stride-small _ _) in
    let p : fo.field_of-f.result.place < numbers_width = rw fo.field_of-f.ensures (field-place-small _ _) in
    omega (arith, small_product b2.if-axis-gt2.false s)

pub returns : goal.returns
unfolding field_numbers
returns c =
    let b2 = c.before.before.before in
    let ao = b2.before in
    let nw = ao.before in
    let b1 = nw.before in
    let fo = b1 in
    rw (c.read_numbers-2.ensures, ← fo.field_of-f.ensures, ← nw.next_word-v.ensures, ← ao.axis_of-axis.ensures, ne_eqb _ _ b1.if-f-eq0.false, le-ltb _ _ b2.if-axis-gt2.false)
