-- Document 01's cases marked P, as one table, and what each says of the definitions. The theorem is that every case of the table holds (proofs/Cases.antt).
use Rattle.std.specs.Prelude.{ℕ, ◌≡◌, List, [], ◌∷◌, pos, neg_ℤ}
use Rattle.floats.specs.Operators.{bits}
use Rattle.floats.specs.Angle.{angle_of}
use Rattle.floats.specs.MicroReport.{micro_report_of}
use Rattle.floats.specs.declared.micro_report.MicroReport.{MicroReport}
use Rattle.floats.specs.declared.micro_report.MicroReport.TheVariants.{Whole}
use Rattle.rows.specs.RowIds.{row_ids}
use Rattle.rows.specs.declared.joint_velocity_constraint.WritebackId.{WritebackId}
use Rattle.rows.specs.declared.joint_velocity_constraint.WritebackId.TheVariants.{Dof, Limit, Motor}

pub data Case : Type 0 where
  -- masks as handed over, locked, limit, motor, coupled, and the ids of the rows
  masks : ℕ → ℕ → ℕ → ℕ → List WritebackId → Case
  -- bit patterns of re, of im and of their angle
  angle : ℕ → ℕ → ℕ → Case
  -- the bit pattern of an impulse, and its report
  report : ℕ → MicroReport → Case

abbrev pub Holds : Case → Type 0
Holds (masks locked limit motor coupled ids) =
    row_ids 2 1 (record { locked_axes = locked; limit_axes = limit; motor_axes = motor; coupled_axes = coupled }) ≡ ids
Holds (angle re im r) = angle_of (bits re) (bits im) ≡ bits r
Holds (report x r) = micro_report_of (bits x) ≡ r

-- document 01's table; the reports are request R-3's
abbrev pub cases : List Case
cases =
    masks 3 4 4 0 (Motor 2 ∷ Dof 0 ∷ Dof 1 ∷ Limit 2 ∷ [])
    ∷ masks 0 7 7 0 (Motor 2 ∷ Motor 0 ∷ Motor 1 ∷ Limit 2 ∷ Limit 0 ∷ Limit 1 ∷ [])
    ∷ masks 0 1 0 3 (Limit 0 ∷ [])
    ∷ masks 0 2 0 3 []
    ∷ masks 0 0 2 3 (Motor 0 ∷ [])
    ∷ masks 0 4 4 4 []
    ∷ masks 1 3 3 3 (Motor 0 ∷ Dof 0 ∷ [])
    ∷ masks 7 7 7 0 (Dof 2 ∷ Dof 0 ∷ Dof 1 ∷ [])
    ∷ angle 0 0x3F80_0000 0x3FC9_0FDB
    ∷ angle 0x3F80_0000 0x3F80_0000 0x3F49_0FDB
    ∷ angle 0xBF80_0000 0 0x4049_0FDB
    ∷ report 0x3C00_0000 (Whole (pos 7812))
    ∷ report 0x3CC0_0000 (Whole (pos 23438))
    ∷ report 0xBC00_0000 (Whole (neg_ℤ (pos 7812)))
    ∷ []

infixr 4 ◌and◌
-- each case of a list holds
pub data Every : List Case → Type 0 where
  none : Every []
  ◌and◌ : {c : Case} {cs : List Case} → Holds c → Every cs → Every (c ∷ cs)
