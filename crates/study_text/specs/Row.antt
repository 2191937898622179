-- A line of a study's table, as text.
use Rattle.std.specs.Prelude.{ℕ, List, [], ◌∷◌, ◌++◌, Option, Float}
use Rattle.rows.specs.declared.joint_velocity_constraint.WritebackId.{WritebackId}
use Rattle.texts.specs.Ascii.{LF, SPACE}
use Rattle.decimals.specs.Spelled.{spelled_text}
use Rattle.study_text.specs.Number.{filled, number_column, right_column}
use Rattle.study_text.specs.Rules.{rule_of}
use Rattle.catalogue.specs.Text.{id_text}
use Rattle.study_text.specs.Words.{bound_of, bound_text, number_of, definition_text}
use Rattle.study_text.specs.declared.rules.Rule.{Rule}
use Rattle.study_text.specs.declared.words.Bound.{Bound}

-- a text filled up with blanks to w bytes, and one blank more
unfoldable pub column : ℕ → List ℕ → List ℕ
column w text = filled w text ++ SPACE ∷ []

-- the names of the joint and its two bodies
unfoldable pub names_text : List ℕ → List ℕ → List ℕ → List ℕ
names_text joint body1 body2 = column 11 joint ++ column 9 body1 ++ column 9 body2

-- the impulse, its lower and its upper bound
unfoldable pub numbers_text : Float → Float → Float → List ℕ
numbers_text impulse low high = number_column impulse ++ number_column low ++ number_column high

-- the residual, what one more step would change of the impulse (rows, `residual_of`), as a decimal in the row's unit; and the bound that the impulse stands at
unfoldable pub standing_text : Float → Option Bound → List ℕ
standing_text residual bound = right_column (spelled_text residual) ++ column 4 (bound_text bound)

-- the id, the three numbers, and where the impulse stands
unfoldable pub values_text : WritebackId → Float → Float → Float → Float → List ℕ
values_text id impulse low high residual = column 6 (id_text id) ++ numbers_text impulse low high ++ standing_text residual (bound_of impulse low high)

-- the rule's number, the definition, and the line's end
unfoldable pub rule_text : Rule → List ℕ
rule_text rule = column 3 (number_of rule) ++ definition_text rule ++ LF ∷ []

-- the line of a row that comes from a rule
unfoldable pub line_with : List ℕ → List ℕ → List ℕ → WritebackId → Rule → Float → Float → Float → Float → List ℕ
line_with joint body1 body2 id rule impulse low high residual = names_text joint body1 body2 ++ values_text id impulse low high residual ++ rule_text rule

unfoldable pub row_text : List ℕ → List ℕ → List ℕ → WritebackId → ℕ → Float → Float → Float → Float → List ℕ
row_text joint body1 body2 id coupled impulse low high residual = line_with joint body1 body2 id (rule_of id coupled) impulse low high residual
