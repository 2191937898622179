-- A body's velocity, as a velocity read prints it.
use Rattle.std.specs.Prelude.{ℕ, List, ◌++◌, Float}
use Rattle.texts.specs.Ascii.{ascii}
use Rattle.study_text.specs.Number.{millionths_text}

unfoldable pub moves_text : Float → Float → List ℕ
moves_text x y = ascii " moves " ++ millionths_text x ++ ascii " " ++ millionths_text y ++ ascii " millionths of m/s, turns "

unfoldable pub turns_text : Float → List ℕ
turns_text angular = millionths_text angular ++ ascii " millionths of rad/s\n"

unfoldable pub motion_text : Float → Float → Float → List ℕ
motion_text x y angular = moves_text x y ++ turns_text angular

-- the body's name and its velocity
abbrev pub velocity_text : List ℕ → Float → Float → Float → List ℕ
velocity_text name x y angular = name ++ motion_text x y angular
