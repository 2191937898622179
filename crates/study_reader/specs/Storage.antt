-- Where a study's numbers, words and names stand. A study has at most 129 bodies and 129 joints: one more of each than a model, so that a load can
-- refuse it. Numbers: those of the settings, then those of each body, then those of each joint. Words: those of each joint. A body's and a joint's records
-- are a model's (crates/model/specs/Layout.antt). Names: where each body's name starts and ends in the text, then each joint's. Origins: the place in the
-- text that gave each number, and then each word; 0 where none did. A place past the end of a storage holds nothing and keeps nothing (`get_or` and `set` of
-- the library).
use Rattle.std.specs.Prelude.{cond, ℕ, ◌+◌, ◌*◌, ltb}
use Rattle.model.specs.Layout.{body_width, words_width, numbers_width}

abbrev pub most_items : ℕ
most_items = 129

-- the settings
abbrev pub settings_width : ℕ
settings_width = 3

abbrev pub dt_place : ℕ
dt_place = 0

abbrev pub length_unit_place : ℕ
length_unit_place = 1

abbrev pub max_corrective_velocity_place : ℕ
max_corrective_velocity_place = 2

-- where the joints' numbers start
abbrev pub joints_place : ℕ
joints_place = settings_width + most_items * body_width

-- how many numbers and how many words
abbrev pub numbers_size : ℕ
numbers_size = joints_place + most_items * numbers_width

abbrev pub words_size : ℕ
words_size = most_items * words_width

-- where the joints' names start, and where they end
abbrev pub joint_names : ℕ
joint_names = 2 * most_items

abbrev pub names_size : ℕ
names_size = 2 * joint_names

-- where the numbers of a body and of a joint start, and a joint's words; past the end where there is none
unfoldable pub body_base : ℕ → ℕ
body_base i = cond (ltb i most_items) (settings_width + body_width * i) numbers_size

unfoldable pub joint_base : ℕ → ℕ
joint_base j = cond (ltb j most_items) (joints_place + numbers_width * j) numbers_size

unfoldable pub words_base : ℕ → ℕ
words_base j = cond (ltb j most_items) (words_width * j) words_size

-- a place as it is kept: in 32 bits
unfoldable pub kept : ℕ → ℕ
kept at = cond (ltb at 4294967295) at 4294967295
