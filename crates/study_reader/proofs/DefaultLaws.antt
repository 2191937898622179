-- The law of specs/DefaultLaws.antt, computed.
use mathlib.Core.Path.{refl}
use lib.Ieee.{neg, of_bits, round, units, odd}
use Rattle.model.specs.Store.{solver_pose_at, vel_at, joint_at}
use Rattle.study_reader.specs.Words.{has, same_bytes, is_blank, ends_word, run_of, line_count, next_word, is_empty, next_line, bytes_of, is_word, same_words, holds_byte}
use Rattle.study_reader.specs.Storage.{body_base, joint_base, words_base, kept}
use Rattle.study_reader.specs.Names.{name_at, first_from, find_body, find_joint, find_end}
use Rattle.study_reader.specs.Keywords.{meaning}
use Rattle.study_reader.specs.Draft.{puts}
use Rattle.study_reader.specs.Items.{or_fault, or_fault_there, whole, name_fault, body_line, between, ends_line, joint_line, open_line, item_line, line_of}
use Rattle.study_reader.specs.Study.{word_with, origin_with, name_with, open_body, open_joint, applied, line_read, lines_read, left_open, ended, is_left_out, center_joint, center_joints, read_study, study_of}
use Rattle.study_reader.specs.DefaultLaws.{BareItems}

pub bare-items : BareItems
unfolding has same_bytes is_blank ends_word run_of line_count next_word is_empty next_line bytes_of is_word same_words holds_byte body_base joint_base words_base kept name_at first_from find_body find_joint find_end meaning puts or_fault or_fault_there whole name_fault body_line between ends_line joint_line open_line item_line line_of word_with origin_with name_with open_body open_joint applied line_read lines_read left_open ended is_left_out center_joint center_joints read_study study_of solver_pose_at vel_at joint_at neg of_bits round units odd
bare-items = record { no_fault = refl; settings = refl; body = refl; velocity = refl; joint = refl }
