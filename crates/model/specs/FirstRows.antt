-- Document 02, R-10: a joint's first row is none of its contents, and where a caller has altered it, calls work from the sum. So no call tells two models apart that differ in first rows alone.
use Rattle.std.specs.Prelude.{ℕ, ◌<◌, ◌≡◌, List, length, Float}
use Rattle.multibody.specs.Model.{Model}
use Rattle.multibody.specs.Calls.{Call, run}
use Rattle.model.specs.Layout.{words_width, first_row_place}
use Rattle.model.specs.Records.{word}
use Rattle.model.specs.Planar.{planar}

-- the joints' words: every one but the last of each joint's twelve is the same
pub record FirstRowsAlone (w w' : List ℕ) : Type 0 where
  pub size : length w' ≡ length w
  pub other : (j c : ℕ) → c < first_row_place → word words_width w' j c ≡ word words_width w j c

-- two models that differ in first rows alone
pub record SameButFirstRows (m m' : Model) : Type 0 where
  pub params : m'.params ≡ m.params
  pub mark : m'.built ≡ m.built
  pub bodies : m'.bodies ≡ m.bodies
  pub words : FirstRowsAlone m.words m'.words
  pub numbers : m'.numbers ≡ m.numbers

-- every call answers them alike, and leaves them so, with equal row storage
abbrev pub FirstRowsUnread : Type 0
FirstRowsUnread =
    (c : Call planar) (m m' : Model) (rows : List Float) → SameButFirstRows m m'
    → let o = run planar c m rows in
    let o' = run planar c m' rows in
    (o'.answer ≡ o.answer) × SameButFirstRows o.after o'.after × (o'.rows ≡ o.rows)
