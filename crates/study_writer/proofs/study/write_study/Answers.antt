-- `write_study` meets its contract: the text where it fits, and else nothing.
use native.Mathlib.Omega.{arith}
use Rattle.study_writer.proofs.WriteLaws.{bodies-room, words_room, numbers_room, no-bodies, no-joints, none_left, answered, written-there, left_there}
use Rattle.study_writer.proofs.study.write_study.Goals as goal

pub returns-then-nb-gt-MOST_BODIES : goal.returns-then-nb-gt-MOST_BODIES
returns-then-nb-gt-MOST_BODIES c = none_left c.args.header c.args.bodies.now c.args.words.now c.args.numbers.now _ (no-bodies c.args.header c.args.bodies.now c.args.words.now c.args.numbers.now _ c.body_count-nb.ensures c.if-nb-gt-MOST_BODIES.true)

pub returns-then-nj-gt-MOST_JOINTS : goal.returns-then-nj-gt-MOST_JOINTS
returns-then-nj-gt-MOST_JOINTS c = none_left c.args.header c.args.bodies.now c.args.words.now c.args.numbers.now _ (no-joints c.args.header c.args.bodies.now c.args.words.now c.args.numbers.now _ _ c.body_count-nb.ensures c.if-nb-gt-MOST_BODIES.false c.joint_count-nj.ensures c.if-nj-gt-MOST_JOINTS.true)

pub put_study-len-requires : goal.put_study-len-requires
put_study-len-requires c = (bodies-room _ _ c.body_count-nb.ensures, words_room _ _ _ c.joint_count-nj.ensures, numbers_room _ _ _ c.joint_count-nj.ensures)

pub put_study-requires : goal.put_study-requires
put_study-requires c = (bodies-room _ _ c.body_count-nb.ensures, words_room _ _ _ c.joint_count-nj.ensures, numbers_room _ _ _ c.joint_count-nj.ensures)

pub returns-then-len-out : goal.returns-then-len-out
returns-then-len-out c = let g = answered c.args.header c.args.bodies.now c.args.words.now c.args.numbers.now _ _ c.body_count-nb.ensures c.if-nb-gt-MOST_BODIES.false c.joint_count-nj.ensures c.if-nj-gt-MOST_JOINTS.false (λ i. omega (arith, c.type_inv.words i)) _ _ _ c.put_study-len.ensures in (answered c.args.header c.args.bodies.now c.args.words.now c.args.numbers.now _ _ c.body_count-nb.ensures c.if-nb-gt-MOST_BODIES.false c.joint_count-nj.ensures c.if-nj-gt-MOST_JOINTS.false (λ i. omega (arith, c.type_inv.words i)) _ _ _ c.put_study.ensures, written-there c.args.header c.args.bodies.now c.args.words.now c.args.numbers.now _ _ c.body_count-nb.ensures c.if-nb-gt-MOST_BODIES.false c.joint_count-nj.ensures c.if-nj-gt-MOST_JOINTS.false (λ i. omega (arith, c.type_inv.words i)) _ _ _ c.put_study.ensures (omega (arith, g, c.if-len-out.true)))

pub returns : goal.returns
returns c = let g = answered c.args.header c.args.bodies.now c.args.words.now c.args.numbers.now _ _ c.body_count-nb.ensures c.if-nb-gt-MOST_BODIES.false c.joint_count-nj.ensures c.if-nj-gt-MOST_JOINTS.false (λ i. omega (arith, c.type_inv.words i)) _ _ _ c.put_study-len.ensures in (g, left_there c.args.header c.args.bodies.now c.args.words.now c.args.numbers.now _ _ c.body_count-nb.ensures c.if-nb-gt-MOST_BODIES.false c.joint_count-nj.ensures c.if-nj-gt-MOST_JOINTS.false (λ i. omega (arith, c.type_inv.words i)) _ (omega (arith, g, c.if-len-out.false)))
