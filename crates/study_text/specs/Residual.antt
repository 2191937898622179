-- How far from settled a table's rows are: the row whose impulse one more step would change most.
use Rattle.std.specs.Prelude.{ℕ, List, ◌++◌, Float}
use Rattle.rows.specs.declared.joint_velocity_constraint.WritebackId.{WritebackId}
use Rattle.texts.specs.Ascii.{ascii}
use Rattle.decimals.specs.Spelled.{spelled_text}
use Rattle.catalogue.specs.Text.{id_text}

-- the row's id, and the change as a decimal in the row's unit
unfoldable pub change_text : WritebackId → Float → List ℕ
change_text id x = ascii " " ++ id_text id ++ ascii " has the largest residual: " ++ spelled_text x ++ ascii "\n"

-- after the name of the row's joint
abbrev pub residual_text : List ℕ → WritebackId → Float → List ℕ
residual_text joint id x = joint ++ change_text id x
