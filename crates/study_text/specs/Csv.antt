-- A line of a study's table, as a record of comma-separated values.
use Rattle.std.specs.Prelude.{ℕ, false, cond, List, [], ◌∷◌, ◌++◌, Option, Some, None, eqb, Float}
use Rattle.std.specs.Float.{binary32}
use Rattle.std.specs.Float.Ieee.{to_bits}
use Rattle.rows.specs.declared.joint_velocity_constraint.WritebackId.{WritebackId}
use Rattle.texts.specs.Ascii.{ascii, COMMA, CR, LF}
use Rattle.texts.specs.Hex.{hex_word}
use Rattle.decimals.specs.Spelled.{spelled_text}
use Rattle.model.specs.Store.{axis_of}
use Rattle.study_text.specs.Number.{millionths_text}
use Rattle.study_text.specs.Rules.{rule_of}
use Rattle.catalogue.specs.Text.{id_text}
use Rattle.study_text.specs.Words.{bound_of, number_of, definition_text}
use Rattle.study_text.specs.declared.rules.Rule.{Rule}
use Rattle.study_text.specs.declared.words.Bound.{Bound}
use Rattle.study_text.specs.declared.words.Bound.TheVariants.{Low, High}

-- a text and a comma
unfoldable pub field : List ℕ → List ℕ
field text = text ++ COMMA ∷ []

-- ---- words

-- an impulse's unit, of the angle and of a linear axis
abbrev pub unit_of : ℕ → List ℕ
unit_of i = cond (eqb i 2) (ascii "N*m*s") (ascii "N*s")

abbrev pub unit_text : WritebackId → List ℕ
unit_text id = unit_of (axis_of id)

abbrev pub at_text : Option Bound → List ℕ
at_text (Some Low) = ascii "low"
at_text (Some High) = ascii "high"
at_text None = ascii "no"

-- the bits of a number, a to f not in capitals
abbrev pub bits_text : Float → List ℕ
bits_text x = hex_word false (to_bits binary32 x)

-- ---- the record

unfoldable pub csv_names : List ℕ → List ℕ → List ℕ → List ℕ
csv_names joint body1 body2 = field joint ++ field body1 ++ field body2

unfoldable pub csv_id : WritebackId → List ℕ
csv_id id = field (id_text id) ++ field (unit_text id)

-- a number in millionths (`over` where there are none), as a decimal in its unit that reads as it, and its bits
unfoldable pub csv_number : Float → List ℕ
csv_number x = field (millionths_text x) ++ field (spelled_text x) ++ field (bits_text x)

-- the impulse, its lower and its upper bound
unfoldable pub csv_numbers : Float → Float → Float → List ℕ
csv_numbers impulse low high = csv_number impulse ++ csv_number low ++ csv_number high

-- the definition, and the record's end
unfoldable pub csv_end : Rule → List ℕ
csv_end rule = definition_text rule ++ CR ∷ LF ∷ []

-- the bound that the impulse stands at, the rule's number, and its definition
unfoldable pub csv_rule : Option Bound → Rule → List ℕ
csv_rule bound rule = field (at_text bound) ++ field (number_of rule) ++ csv_end rule

-- the residual, and these
unfoldable pub csv_standing : Float → Option Bound → Rule → List ℕ
csv_standing residual bound rule = csv_number residual ++ csv_rule bound rule

-- all after the names
unfoldable pub csv_values : WritebackId → Rule → Float → Float → Float → Float → List ℕ
csv_values id rule impulse low high residual = csv_id id ++ csv_numbers impulse low high ++ csv_standing residual (bound_of impulse low high) rule

-- the line
unfoldable pub csv_text : List ℕ → List ℕ → List ℕ → WritebackId → ℕ → Float → Float → Float → Float → List ℕ
csv_text joint body1 body2 id coupled impulse low high residual = csv_names joint body1 body2 ++ csv_values id (rule_of id coupled) impulse low high residual
