-- Names of bodies and joints: words of the text, kept as where they start and end.
use Rattle.std.specs.Prelude.{Bool, cond, Option, Some, None, List, ℕ, zero, suc, ◌+◌, ◌*◌, get_or}
use Rattle.texts.specs.Ascii.{ascii}
use Rattle.study_reader.specs.Words.{is_word, same_words}
use Rattle.study_reader.specs.Storage.{joint_names}
use Rattle.study_reader.specs.declared.words.Word.{Word}

-- the world's number among the bodies
abbrev pub WORLD : ℕ
WORLD = 4294967295

unfoldable pub name_at : List ℕ → ℕ → Word
name_at names at = record { start = get_or names at 0; end = get_or names (at + 1) 0 }

abbrev pub body_name : List ℕ → ℕ → Word
body_name names i = name_at names (2 * i)

abbrev pub joint_name : List ℕ → ℕ → Word
joint_name names j = name_at names (joint_names + 2 * j)

-- the first of so many numbers from k on of which the test is true
unfoldable pub first_from : (ℕ → Bool) → ℕ → ℕ → Option ℕ
first_from test k zero = None
first_from test k (suc n) = cond (test k) (Some k) (first_from test (k + 1) n)

-- the first of so many bodies that has a word as its name
unfoldable pub find_body : List ℕ → List ℕ → ℕ → Word → Option ℕ
find_body text names bodies w = first_from (λ i. same_words text (body_name names i) w) 0 bodies

unfoldable pub find_joint : List ℕ → List ℕ → ℕ → Word → Option ℕ
find_joint text names joints w = first_from (λ j. same_words text (joint_name names j) w) 0 joints

-- a joint's body: a body's name, or `world`
unfoldable pub find_end : List ℕ → List ℕ → ℕ → Word → Option ℕ
find_end text names bodies w = cond (is_word text w (ascii "world")) (Some WORLD) (find_body text names bodies w)
