-- What the exported functions of space store in a slice of the caller's: a joint's rows and their ids.
use Rattle.std.specs.Prelude.{ℕ, ◌+◌, ◌%◌, cond, List, ltb, get_or, set, Float}
use Rattle.std.specs.Float.{nan}
use Rattle.rows.specs.declared.row_ids.RowId.{RowId}
use Rattle.rows.specs.declared.joint_velocity_constraint.WritebackId.{WritebackId}
use Rattle.rows.specs.declared.joint_velocity_constraint.WritebackId.TheVariants.{Dof, Limit, Motor}
use Rattle.spatial_rows.specs.declared.joint_velocity_constraint.Rows.{Rows}
use Rattle.spatial_rows.specs.declared.joint_velocity_constraint.JointConstraint.{JointConstraint}
use Rattle.spatial_rows.specs.declared.row_ids.RowIds.{RowIds}
use Rattle.spatial_model.specs.Store.{row_of_numbers, put_row}
use Rattle.capi.specs.Stored.{id_at}

-- row i of nine
abbrev pub of_nine : List JointConstraint → ℕ → JointConstraint
of_nine cs i = get_or cs i (row_of_numbers (λ _. nan))

-- row k stored if it is one of the first n
unfoldable pub put_if : List Float → ℕ → ℕ → JointConstraint → List Float
put_if s k n r = cond (ltb k n) (put_row s k r) s

-- three rows from row k on, each if it is one of the first n
unfoldable pub put_three_rows : List Float → ℕ → ℕ → JointConstraint → JointConstraint → JointConstraint → List Float
put_three_rows s k n a b c = put_if (put_if (put_if s k n a) (k + 1) n b) (k + 2) n c

-- the rows that an array holds, stored
unfoldable pub put_first : List Float → Rows → List Float
put_first s m =
    let n = m.len in
    let c = of_nine m.rows in
    put_three_rows (put_three_rows (put_three_rows s 0 n (c 0) (c 1) (c 2)) 3 n (c 3) (c 4) (c 5)) 6 n (c 6) (c 7) (c 8)

-- an id's number: eight for each kind, since there are six axes
abbrev pub id_number : WritebackId → ℕ
id_number (Dof i) = i % 8
id_number (Limit i) = 8 + i % 8
id_number (Motor i) = 16 + i % 8

-- id k's number stored if it is one of the first n
unfoldable pub put_id : List ℕ → ℕ → ℕ → RowId → List ℕ
put_id s k n i = cond (ltb k n) (set s k (id_number i.id)) s

-- three ids' numbers from place k on likewise
unfoldable pub put_three_ids : List ℕ → ℕ → ℕ → RowId → RowId → RowId → List ℕ
put_three_ids s k n a b c = put_id (put_id (put_id s k n a) (k + 1) n b) (k + 2) n c

unfoldable pub put_ids : List ℕ → RowIds → List ℕ
put_ids s m =
    let n = m.len in
    let i = id_at m.ids in
    put_three_ids (put_three_ids (put_three_ids s 0 n (i 0) (i 1) (i 2)) 3 n (i 3) (i 4) (i 5)) 6 n (i 6) (i 7) (i 8)
