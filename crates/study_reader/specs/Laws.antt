-- What holds of every text, proved in proofs/StudyLaws.antt. That the reading depends on the text alone is the type of `study_of`.
use Rattle.std.specs.Prelude.{ℕ, ◌+◌, ◌≤◌, ◌<◌, ◌≡◌, true, cond, None, List, [], ◌∷◌, eqb, Float, length, get_or}
use Rattle.model.specs.Store.{first_at}
use Rattle.study_reader.specs.Words.{next_word, is_empty, next_line}
use Rattle.study_reader.specs.Faults.{offset_of}
use Rattle.study_reader.specs.Storage.{most_items}
use Rattle.study_reader.specs.Draft.{Draft, with_state, reached, Default, puts}
use Rattle.study_reader.specs.Study.{numbers_with, line_read, lines_read, read_study}
use Rattle.study_reader.specs.declared.draft.State.{State}
use Rattle.study_reader.specs.declared.items.Numbers.{Numbers}

-- A line with no word, blank or a comment, changes nothing but where the next line starts.
abbrev pub BlankLine : Type 0
BlankLine =
    (text : List ℕ) (d : Draft)
    → d.state.fault ≡ None
    → d.state.at < length text
    → is_empty (next_word text d.state.at) ≡ true
    → line_read text d ≡ with_state d (reached d.state (next_line text d.state.at))

-- The first fault decides: after it no line is read.
abbrev pub FirstFault : Type 0
FirstFault = (text : List ℕ) (n : ℕ) (d : Draft) → (d.state.fault ≡ None → ⊥) → lines_read text n d ≡ d

-- Where there is no fault, the whole text has been read: as many turns as bytes are enough.
abbrev pub WholeText : Type 0
WholeText =
    (text : List ℕ) (d : Draft)
    → (lines_read text (length text) d).state.fault ≡ None
    → length text ≤ (lines_read text (length text) d).state.at

-- However the storage is lent: a fault's place is in the text or at its end, and there are at most `most_items` bodies and joints.
pub record Inside (text : List ℕ) (d : Draft) : Type 0 where
  pub fault : offset_of d.state.fault ≤ length text
  pub bodies : d.state.bodies ≤ most_items
  pub joints : d.state.joints ≤ most_items

abbrev pub AllInside : Type 0
AllInside = (text : List ℕ) (numbers : List Float) (origins words names : List ℕ) → Inside text (read_study text numbers origins words names)

-- No line gives a joint's first row, which is none of its contents: each is left as the storage had it.
abbrev pub FirstRows : Type 0
FirstRows =
    (text : List ℕ) (numbers : List Float) (origins words names : List ℕ) (j : ℕ)
    → j < most_items
    → first_at (read_study text numbers origins words names).words j ≡ first_at words j

-- Where an item is opened, each number that its defaults name has its default, and every other is as it was.
unfoldable pub default_at : List Default → ℕ → Float → Float
default_at [] k x = x
default_at (d ∷ ds) k x = default_at ds k (cond (eqb d.place k) d.value x)

abbrev pub Defaults : Type 0
Defaults =
    (base k : ℕ) (ds : List Default) (numbers : List Float) (other : Float)
    → base + k < length numbers
    → get_or (puts base ds numbers) (base + k) other ≡ default_at ds k (get_or numbers (base + k) other)

-- A second line for the same numbers of an item replaces the first.
abbrev pub Replaced : Type 0
Replaced =
    (st : State) (m n : Numbers) (numbers : List Float)
    → m.place ≡ n.place
    → m.many ≡ n.many
    → numbers_with st n (numbers_with st m numbers) ≡ numbers_with st n numbers
