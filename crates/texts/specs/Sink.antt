-- How programs write a text of which they do not know the length: byte after byte, from a place on. A byte past the end of the room is dropped, and the
-- place goes on; so the place after the text, from 0 on, is the text's length, with or without room. The largest place stays.
use Rattle.std.specs.Prelude.{ℕ, zero, suc, ◌+◌, ◌≡◌, Bool, cond, ◌&&◌, List, [], ◌∷◌, ltb, leb, eqb, length, set}
use Rattle.texts.specs.Ascii.{LF}
use Rattle.texts.specs.Written.{written}

abbrev pub largest_place : ℕ
largest_place = 18446744073709551615

unfoldable pub place_after : ℕ → ℕ
place_after at = cond (ltb at largest_place) (at + 1) at

unfoldable pub put_from : List ℕ → ℕ → List ℕ → List ℕ
put_from out at [] = out
put_from out at (b ∷ bs) = put_from (set out at b) (place_after at) bs

unfoldable pub end_from : ℕ → List ℕ → ℕ
end_from at [] = at
end_from at (b ∷ bs) = end_from (place_after at) bs

-- out becomes out', with the text from `at` on as far as there is room, and it ends at r
pub record Appended (out : List ℕ) (at : ℕ) (text : List ℕ) (out' : List ℕ) (r : ℕ) : Type 0 where
  pub holds : out' ≡ put_from out at text
  pub ends : r ≡ end_from at text

-- ---- a text at the front, or nothing

-- a text whose end is below the largest place; none instead of a longer one, which no slice has room for
unfoldable pub placed : List ℕ → List ℕ
placed text = cond (ltb (length text) largest_place) text []

-- its length is answered; it stands at the front of what was lent, or all is as it was where there is no room for it
pub record Wrote (out text out' : List ℕ) (r : ℕ) : Type 0 where
  pub answers : r ≡ length (placed text)
  pub leaves : out' ≡ written out (placed text)

-- how programs tell this by where a first run ends
abbrev pub has_room : ℕ → ℕ → Bool
has_room end room = ltb end largest_place && leb end room

abbrev pub length_to : ℕ → ℕ
length_to end = cond (ltb end largest_place) end 0

-- ---- a table of words

-- entry i of a table, from 0, each of whose entries ends with LF
unfoldable pub entry : ℕ → List ℕ → List ℕ
entry i [] = []
entry zero (b ∷ bs) = cond (eqb b LF) [] (b ∷ entry zero bs)
entry (suc i) (b ∷ bs) = cond (eqb b LF) (entry i bs) (entry (suc i) bs)
