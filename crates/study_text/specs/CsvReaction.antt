-- A joint's reaction as a record of comma-separated values: each number in millionths, as a decimal, and its bits.
use Rattle.std.specs.Prelude.{ℕ, List, ◌++◌, Option, Float}
use Rattle.rows.specs.declared.reaction.Reaction.{Reaction}
use Rattle.texts.specs.Ascii.{ascii}
use Rattle.study_text.specs.Words.{motors_text}
use Rattle.study_text.specs.Csv.{field, csv_names, csv_number, csv_numbers}

-- what body 1 got, as in a line of text: the linear impulse in the world and along frame 1's axes, the moment at frame 2's place, what turned it
unfoldable pub csv_forces : Reaction → List ℕ
csv_forces r =
    let force = r.impulses.body1.linear in
    csv_numbers force.x force.y r.along.x ++ csv_numbers r.along.y r.moment r.impulses.body1.angular

-- what turned body 2; how many of the joint's motors were low or high; the definition, and the record's end
unfoldable pub csv_turned : Float → Option ℕ → List ℕ
csv_turned angular motors = csv_number angular ++ field (motors_text motors) ++ ascii "reactionOf\r\n"

unfoldable pub csv_reaction_values : Reaction → Option ℕ → List ℕ
csv_reaction_values r motors = csv_forces r ++ csv_turned r.impulses.body2.angular motors

-- the line
unfoldable pub csv_reaction_text : List ℕ → List ℕ → List ℕ → Reaction → Option ℕ → List ℕ
csv_reaction_text joint body1 body2 r motors = csv_names joint body1 body2 ++ csv_reaction_values r motors

-- an empty line, which parts these records from the rows, and their heading
unfoldable pub csv_reaction_heading : List ℕ
csv_reaction_heading = ascii "\r\njoint,body1,body2,force x on body 1 [1e-6 N*s],force x on body 1 [N*s],force x on body 1 [f32 bits],force y on body 1 [1e-6 N*s],force y on body 1 [N*s],force y on body 1 [f32 bits],along x of frame 1 on body 1 [1e-6 N*s],along x of frame 1 on body 1 [N*s],along x of frame 1 on body 1 [f32 bits],along y of frame 1 on body 1 [1e-6 N*s],along y of frame 1 on body 1 [N*s],along y of frame 1 on body 1 [f32 bits],moment at frame 2 on body 1 [1e-6 N*m*s],moment at frame 2 on body 1 [N*m*s],moment at frame 2 on body 1 [f32 bits],turn of body 1 [1e-6 N*m*s],turn of body 1 [N*m*s],turn of body 1 [f32 bits],turn of body 2 [1e-6 N*m*s],turn of body 2 [N*m*s],turn of body 2 [f32 bits],motors low or high in the last round,definition\r\n"
