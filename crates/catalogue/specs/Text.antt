-- Request R-8: the text of the catalogue, a line for each choice, such as "3 4 4 0 4 Motor2 Dof0 Dof1 Limit2".
use Rattle.std.specs.Prelude.{ℕ, cond, eqb, length, get_or}
use mathlib.Core.List.{List, [], ◌∷◌, ◌++◌, map, flat_map}
use Rattle.texts.specs.Ascii.{ascii, LF, SPACE}
use Rattle.texts.specs.Digits.{digit}
use Rattle.rows.specs.RowIds.{row_ids}
use Rattle.rows.specs.declared.generic_joint.Masks.{Masks}
use Rattle.rows.specs.declared.joint_velocity_constraint.WritebackId.{WritebackId}
use Rattle.rows.specs.declared.joint_velocity_constraint.WritebackId.TheVariants.{Dof, Limit, Motor}
use Rattle.catalogue.specs.Choices.{choices}

-- ---- a line

-- the axis of an id is 0, 1 or 2
abbrev pub axis_digit : ℕ → ℕ
axis_digit i = cond (eqb i 0) 0x30 (cond (eqb i 1) 0x31 0x32)

-- the id's kind and its axis
abbrev pub id_text : WritebackId → List ℕ
id_text (Dof i) = ascii "Dof" ++ axis_digit i ∷ []
id_text (Limit i) = ascii "Limit" ++ axis_digit i ∷ []
id_text (Motor i) = ascii "Motor" ++ axis_digit i ∷ []

-- its kind alone
abbrev pub kind_text : WritebackId → List ℕ
kind_text (Dof i) = ascii "Dof"
kind_text (Limit i) = ascii "Limit"
kind_text (Motor i) = ascii "Motor"

-- a blank, and an id
unfoldable pub spaced_id : WritebackId → List ℕ
spaced_id id = SPACE ∷ id_text id

-- ids, one after the other
abbrev pub ids_text : List WritebackId → List ℕ
ids_text is = flat_map spaced_id is

-- the four masks and a count
unfoldable pub head_text : Masks → ℕ → List ℕ
head_text k count =
    digit k.locked_axes
    ∷ SPACE
    ∷ digit k.limit_axes
    ∷ SPACE
    ∷ digit k.motor_axes
    ∷ SPACE
    ∷ digit k.coupled_axes
    ∷ SPACE
    ∷ digit count
    ∷ []

-- the masks, how many rows they give, and the ids of these in order
unfoldable pub line_text : Masks → List ℕ
line_text k = head_text k (length (row_ids 2 1 k)) ++ ids_text (row_ids 2 1 k) ++ (LF ∷ [])

-- ---- the catalogue

-- all lines, one after the other
unfoldable pub catalogue_text : List ℕ
catalogue_text = flat_map line_text choices

-- line n, counted from 0; past the last one there is none
unfoldable pub line_at : ℕ → List ℕ
line_at n = get_or (map line_text choices) n []
