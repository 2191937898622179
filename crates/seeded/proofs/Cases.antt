-- The one theorem that each case of the table of four seeds holds, computed.
use Rattle.std.proofs.Common.{refl}
use lib.Ieee.{neg, div, of_int, of_bits, round, units, odd}
use Rattle.model.specs.Store.{solver_pose_at, masks_at, body1_at, body2_at}
use Rattle.seeded.specs.Draws.{mixed_of, state_after, draw, eighths, number_of}
use Rattle.seeded.specs.Seeded.{tabulate, bodies_of, joints_of, mask_of, first_of, second_of, further, body_number, joint_number, joint_word}
use Rattle.seeded.specs.Cases.{Holds, seed0, seed1, seed2, last, cases, Every, none, ◌and◌}

seed0-holds : Holds seed0
unfolding solver_pose_at masks_at body1_at body2_at mixed_of state_after draw eighths number_of tabulate bodies_of joints_of mask_of first_of second_of further body_number joint_number joint_word div of_int of_bits neg round units odd
seed0-holds = (refl, refl, refl, refl, refl, refl, refl, refl, refl)

seed1-holds : Holds seed1
unfolding solver_pose_at masks_at body1_at body2_at mixed_of state_after draw eighths number_of tabulate bodies_of joints_of mask_of first_of second_of further body_number joint_number joint_word div of_int of_bits neg round units odd
seed1-holds = (refl, refl, refl, refl, refl, refl, refl, refl, refl)

seed2-holds : Holds seed2
unfolding solver_pose_at masks_at body1_at body2_at mixed_of state_after draw eighths number_of tabulate bodies_of joints_of mask_of first_of second_of further body_number joint_number joint_word div of_int of_bits neg round units odd
seed2-holds = (refl, refl, refl, refl, refl, refl, refl, refl, refl)

last-holds : Holds last
unfolding solver_pose_at masks_at body1_at body2_at mixed_of state_after draw eighths number_of tabulate bodies_of joints_of mask_of first_of second_of further body_number joint_number joint_word div of_int of_bits neg round units odd
last-holds = (refl, refl, refl, refl, refl, refl, refl, refl, refl)

pub all : Every cases
all = seed0-holds and seed1-holds and seed2-holds and last-holds and none
