-- What the exported functions store in a slice of the caller's: three numbers, a joint's rows and their ids.
use Rattle.std.specs.Prelude.{ℕ, ◌+◌, ◌%◌, cond, List, ltb, get_or, set, Float}
use Rattle.std.specs.Float.{nan}
use Rattle.rows.specs.RowIds.{row_id}
use Rattle.rows.specs.declared.joint_velocity_constraint.Rows.{Rows}
use Rattle.rows.specs.declared.row_ids.RowId.{RowId}
use Rattle.rows.specs.declared.row_ids.RowIds.{RowIds}
use Rattle.rows.specs.declared.joint_velocity_constraint.JointConstraint.{JointConstraint}
use Rattle.rows.specs.declared.joint_velocity_constraint.WritebackId.{WritebackId}
use Rattle.rows.specs.declared.joint_velocity_constraint.WritebackId.TheVariants.{Dof, Limit, Motor}
use Rattle.model.specs.Store.{row_of_numbers, put_row}

-- three numbers stored from i on
abbrev pub put_three : List Float → ℕ → Float → Float → Float → List Float
put_three out i a b c = set (set (set out i a) (i + 1) b) (i + 2) c

-- row i of six
abbrev pub of_six : List JointConstraint → ℕ → JointConstraint
of_six cs i = get_or cs i (row_of_numbers (λ _. nan))

-- row k stored if it is one of the first n
unfoldable pub put_if : List Float → ℕ → ℕ → JointConstraint → List Float
put_if s k n r = cond (ltb k n) (put_row s k r) s

-- the rows that an array holds, stored
unfoldable pub put_first : List Float → Rows → List Float
put_first s m =
    let n = m.len in
    let c = of_six m.rows in
    put_if (put_if (put_if (put_if (put_if (put_if s 0 n (c 0)) 1 n (c 1)) 2 n (c 2)) 3 n (c 3)) 4 n (c 4)) 5 n (c 5)

-- an id's number; the axes are 0, 1 and 2
abbrev pub id_number : WritebackId → ℕ
id_number (Dof i) = i % 4
id_number (Limit i) = 4 + i % 4
id_number (Motor i) = 8 + i % 4

-- id k's number stored if it is one of the first n
unfoldable pub put_id : List ℕ → ℕ → ℕ → RowId → List ℕ
put_id s k n i = cond (ltb k n) (set s k (id_number i.id)) s

-- id k of six
abbrev pub id_at : List RowId → ℕ → RowId
id_at ids k = get_or ids k (row_id (Dof 0))

unfoldable pub put_ids : List ℕ → RowIds → List ℕ
put_ids s m =
    let n = m.len in
    let i = id_at m.ids in
    put_id (put_id (put_id (put_id (put_id (put_id s 0 n (i 0)) 1 n (i 1)) 2 n (i 2)) 3 n (i 3)) 4 n (i 4)) 5 n (i 5)
