-- A read that the model refuses, or that has no room, leaves the slices that it is to write as they were; and its number says which.
use Prim.Native.Nat.{ℕ}
use mathlib.Core.Path.{◌≡◌, refl, sym, ap, ◌∙◌}
use mathlib.Core.Bool.{false}
use mathlib.Core.List.{List}
use lib.Dec.{leb}
use lib.ListN.{length}
use lib.Ieee.{Float}
use Rattle.rows.specs.Update.{rows_array}
use Rattle.rows.specs.declared.generic_joint.Masks.{Masks}
use Rattle.rows.specs.declared.joint_velocity_constraint.Rows.{Rows}
use Rattle.rows.specs.declared.row_ids.RowIds.{RowIds}
use Rattle.std.specs.Prelude.{Ok, Err}
use Rattle.multibody.specs.Model.{Model}
use Rattle.multibody.specs.Calls.{Answer, Outcome, outcome}
use Rattle.multibody.specs.Calls.Answer.{granted, total, rows_read, velocity_read, swept, refused}
use Rattle.model.specs.Planar.{plane}
use Rattle.model.specs.JointRows.{rows_list}
use Rattle.model.specs.Answers.{rows_answer, RowsFilled}
use Rattle.capi.specs.CallExports.{short_slice, rows_given, rows_number, room_for_rows, rows_if_room, ids_if_room, rows_out, ids_out, put_velocity, velocity_out}

-- a row read in the form in which the program has it
pub rows-told : (masks : Masks) {r : RowIds × Rows} {m : Model} {rows : List Float} {o : Outcome plane} → outcome (rows_answer (Ok r)) m rows ≡ o → RowsFilled masks (Ok r) → rows_given masks o.answer ≡ Ok r
rows-told masks {r} told f =
    ap (λ (o : Outcome plane). rows_given masks o.answer) (sym told)
    ∙ ap (λ i. Ok (i, rows_array (rows_list r.1))) (sym f.0) ∙ ap (λ x. Ok (r.0, x)) (sym f.1)

pub rows-refused : (masks : Masks) {k : ℕ} {m : Model} {rows : List Float} {o : Outcome plane} → outcome (refused k) m rows ≡ o → rows_given masks o.answer ≡ Err k
rows-refused masks told = ap (λ (o : Outcome plane). rows_given masks o.answer) (sym told)

module _ (out : List Float) (ids : List ℕ) where
  -- a row read that the model refuses
  module _ (masks : Masks) (k : ℕ) where
    pub refused-number : rows_number (rows_given masks (refused k)) out ids ≡ k
    refused-number = refl

    pub refused-rows : rows_out (rows_given masks (refused k)) out ids ≡ out
    refused-rows = refl

    pub refused-ids : ids_out (rows_given masks (refused k)) out ids ≡ ids
    refused-ids = refl

  -- one that it grants, with no room
  module _ (r : RowIds × Rows) (e : room_for_rows out ids ≡ false) where
    pub short-number : rows_number (Ok r) out ids ≡ short_slice
    short-number = simp e

    pub short-rows : rows_out (Ok r) out ids ≡ out
    unfolding rows_if_room
    short-rows = simp e

    pub short-ids : ids_out (Ok r) out ids ≡ ids
    unfolding ids_if_room
    short-ids = simp e

-- a velocity read with no room
module _ (out : List Float) (e : leb 3 (length out) ≡ false) where
  pub short-velocity : (a : Answer plane) → velocity_out a out ≡ out
  unfolding put_velocity
  short-velocity (velocity_read v) = simp e
  short-velocity granted = refl
  short-velocity (total n) = refl
  short-velocity (rows_read is rows) = refl
  short-velocity (swept counts) = refl
  short-velocity (refused k) = refl
