-- Masks of joints in space as one table, and the ids of the rows that they give. The theorem is that every case of the table holds (proofs/Cases.antt).
use Rattle.std.specs.Prelude.{ℕ, ◌≡◌, List, [], ◌∷◌}
use Rattle.rows.specs.RowIds.{row_ids}
use Rattle.rows.specs.declared.joint_velocity_constraint.WritebackId.{WritebackId}
use Rattle.rows.specs.declared.joint_velocity_constraint.WritebackId.TheVariants.{Dof, Limit, Motor}
use Rattle.spatial_rows.specs.SpatialMasks.{spatial_masks}

-- masks as handed over, locked, limit, motor, coupled, and the ids of the rows
pub data Case : Type 0 where
  masks : ℕ → ℕ → ℕ → ℕ → List WritebackId → Case

abbrev pub Holds : Case → Type 0
Holds (masks locked limit motor coupled ids) =
    row_ids 3 3 (spatial_masks (record { locked_axes = locked; limit_axes = limit; motor_axes = motor; coupled_axes = coupled })) ≡ ids

-- The locks of angular axes come before those of linear ones. The second has the most rows, nine; the last two are masks that rules 3 and 17 refuse, whose further bits give no row.
abbrev pub cases : List Case
cases =
    masks 63 0 0 0 (Dof 3 ∷ Dof 4 ∷ Dof 5 ∷ Dof 0 ∷ Dof 1 ∷ Dof 2 ∷ [])
    ∷ masks 56 7 7 0 (Motor 0 ∷ Motor 1 ∷ Motor 2 ∷ Dof 3 ∷ Dof 4 ∷ Dof 5 ∷ Limit 0 ∷ Limit 1 ∷ Limit 2 ∷ [])
    ∷ masks 62 1 1 0 (Motor 0 ∷ Dof 3 ∷ Dof 4 ∷ Dof 5 ∷ Dof 1 ∷ Dof 2 ∷ Limit 0 ∷ [])
    ∷ masks 41 6 5 0 (Motor 2 ∷ Dof 3 ∷ Dof 5 ∷ Dof 0 ∷ Limit 1 ∷ Limit 2 ∷ [])
    ∷ masks 35 4 4 0 (Motor 2 ∷ Dof 5 ∷ Dof 0 ∷ Dof 1 ∷ Limit 2 ∷ [])
    ∷ masks 63 7 7 0 (Dof 3 ∷ Dof 4 ∷ Dof 5 ∷ Dof 0 ∷ Dof 1 ∷ Dof 2 ∷ [])
    ∷ masks 0 0 0 0 []
    ∷ masks 64 8 8 1 []
    ∷ masks 0 1 1 1 (Motor 0 ∷ Limit 0 ∷ [])
    ∷ []

infixr 4 ◌and◌
-- each case of a list holds
pub data Every : List Case → Type 0 where
  none : Every []
  ◌and◌ : {c : Case} {cs : List Case} → Holds c → Every cs → Every (c ∷ cs)
