-- The one theorem that each of document 01's cases marked P holds, with request R-3's three of the report: rows are computed over the masks, angles and reports are laws of `floats`.
use mathlib.Core.Path.{refl}
use Rattle.floats.proofs.AngleCases.{quarter-turn, eighth-turn, half-turn}
use Rattle.floats.proofs.MicroReportCases.{half_down, half_up, half-negative}
use Rattle.rows.specs.RowIds.{has_axis, row_ids}
use Rattle.rows.specs.Cases.{cases, Every, none, ◌and◌}

pub all : Every cases
unfolding has_axis row_ids
all =
    refl and refl and refl and refl and refl and refl and refl and refl
    and quarter-turn and eighth-turn and half-turn
    and half_down and half_up and half-negative
    and none
