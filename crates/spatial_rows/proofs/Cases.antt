-- The one theorem that each case of masks in space holds: rows are computed over the masks.
use mathlib.Core.Path.{refl}
use Rattle.rows.specs.RowIds.{has_axis, row_ids}
use Rattle.spatial_rows.specs.Cases.{cases, Every, none, ◌and◌}

pub all : Every cases
unfolding has_axis row_ids
all = refl and refl and refl and refl and refl and refl and refl and refl and refl and none
