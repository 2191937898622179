-- What the call `seeded` answers, and what it leaves in the slices that it is lent.
use Rattle.std.specs.Prelude.{ℕ, ◌*◌, Bool, cond, ◌&&◌, List, ◌++◌, Option, Some, None, length, drop, nat_le, Float}
use Rattle.model.specs.Layout.{body_width, words_width, numbers_width}
use Rattle.seeded.specs.Seeded.{tabulate, bodies_of, joints_of, header_of, body_place, word_place, number_place}
use Rattle.seeded.specs.declared.seeded.SeededModel.{SeededModel}

pub record Left : Type 0 where
  pub answer : Option SeededModel
  pub bodies : List Float
  pub words : List ℕ
  pub numbers : List Float

abbrev pub left : Option SeededModel → List Float → List ℕ → List Float → Left
left a b w n = record { answer = a; bodies = b; words = w; numbers = n }

-- eight records of each kind are enough for every seed, and are asked for whatever the seed
unfoldable pub room : List Float → List ℕ → List Float → Bool
room b w n = nat_le 80 (length b) && (nat_le 96 (length w) && nat_le 336 (length n))

-- the first n places of a slice replaced; the rest stays
abbrev pub front : {A : Type 0} → ℕ → (ℕ → A) → List A → List A
front n f old = tabulate 0 n f ++ drop n old

-- the model's records at the front of each slice; where one slice is too short, nothing is written
unfoldable pub seeded_of : ℕ → List Float → List ℕ → List Float → Left
seeded_of seed b w n =
    cond (room b w n)
    (left (Some (record { header = header_of seed; bodies = bodies_of seed; joints = joints_of seed })) (front (bodies_of seed * body_width) (body_place seed) b) (front (joints_of seed * words_width) (word_place seed) w)
    (front (joints_of seed * numbers_width) (number_place seed) n))
    (left None b w n)
