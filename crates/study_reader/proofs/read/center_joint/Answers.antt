use native.Mathlib.Omega.{arith}
use Rattle.study_reader.specs.Study.{center_joint, middle}
use Rattle.study_reader.proofs.ReadLaws.{joint-base-small, words-base-small}
use Rattle.study_reader.proofs.read.center_joint.Goals as goal

pub is_left_out-requires : goal.is_left_out-requires
is_left_out-requires c =
    omega (arith, c.joint_base-base.ensures, joint-base-small c.args.j)

pub overflow_add-base : goal.overflow_add-base
overflow_add-base c =
    omega (arith, c.joint_base-base.ensures, joint-base-small c.args.j)

pub overflow_add-base-then-is_left_out : goal.overflow_add-base-then-is_left_out
overflow_add-base-then-is_left_out c =
    omega (arith, c.joint_base-base.ensures, joint-base-small c.args.j)

pub overflow_add-base-then-is_left_out-2 : goal.overflow_add-base-then-is_left_out-2
overflow_add-base-then-is_left_out-2 c =
    omega (arith, c.joint_base-base.ensures, joint-base-small c.args.j)

pub overflow_add-words_base : goal.overflow_add-words_base
overflow_add-words_base c =
    omega (arith, c.words_base.ensures, words-base-small c.args.j)

pub returns-then-is_left_out : goal.returns-then-is_left_out
unfolding center_joint middle
returns-then-is_left_out c st names =
    rw (← c.joint_base-base.ensures, ← c.is_left_out.ensures, c.if-is_left_out.true, c.set.ensures, c.set_word.ensures, c.words_base.ensures, c.number_at-min.ensures, c.number_at-max.ensures)

pub returns-else-is_left_out : goal.returns-else-is_left_out
unfolding center_joint middle
returns-else-is_left_out c st names = rw (← c.joint_base-base.ensures, ← c.is_left_out.ensures, c.if-is_left_out.false)
