-- A joint's reaction, and how many of its motors ran out of force, a line under the table's rows: what the rows of the joint together gave its two bodies, with the definition (rows, `reaction_of`).
use Rattle.std.specs.Prelude.{ℕ, List, ◌++◌, Option, Float}
use Rattle.rows.specs.declared.reaction.Reaction.{Reaction}
use Rattle.texts.specs.Ascii.{ascii}
use Rattle.study_text.specs.Number.{number_column}
use Rattle.study_text.specs.Words.{motors_text}
use Rattle.study_text.specs.Row.{column, numbers_text, names_text}

-- what body 1 got: the linear impulse in the world, the same along frame 1's axes; the moment at frame 2's place, and what turned body 1 about its centre of mass
unfoldable pub forces_text : Reaction → List ℕ
forces_text r =
    let force = r.impulses.body1.linear in
    numbers_text force.x force.y r.along.x ++ numbers_text r.along.y r.moment r.impulses.body1.angular

-- what turned body 2 about its centre of mass; how many of the joint's motors were low or high; and the definition
unfoldable pub turned_text : Float → Option ℕ → List ℕ
turned_text angular motors = number_column angular ++ column 6 (motors_text motors) ++ ascii "reactionOf\n"

unfoldable pub reaction_values : Reaction → Option ℕ → List ℕ
reaction_values r motors = forces_text r ++ turned_text r.impulses.body2.angular motors

-- the line
unfoldable pub reaction_text : List ℕ → List ℕ → List ℕ → Reaction → Option ℕ → List ℕ
reaction_text joint body1 body2 r motors = names_text joint body1 body2 ++ reaction_values r motors

-- the line above these lines, and what stands below them
unfoldable pub reaction_heading : List ℕ
reaction_heading = ascii "\njoint       body 1    body 2            force x         force y         along x         along y          moment          turn 1          turn 2 motors definition\n"

unfoldable pub reaction_notes : List ℕ
reaction_notes = ascii "\nA joint's reaction is what its rows together gave body 1, and body 2 the opposite, in millionths: force x, y the linear impulse in the world [N s]; along x, y the same along the axes of frame 1;\nmoment the angular impulse at the place of frame 2 [N m s]; turn 1, turn 2 what turned each body about its own centre of mass [N m s]; motors how many\nof its motors the last round that was swept found low or high (sweepCounts), so wanting more than their maximum force, - where none was swept since the build. A row's impulse multiplies the row as it was made\northogonal to the locks before it (finalizeOf). So a stop's or a motor's is its own force or couple, but a lock's takes in what later rows share with it: the reaction is the line above.\n"
