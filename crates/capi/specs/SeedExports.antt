-- The exported call that draws a model from a seed (document 02, R-11): its answer as a number, the settings stored, and what it leaves in the slices.
use Rattle.std.specs.Prelude.{ℕ, ◌+◌, ◌*◌, cond, List, leb, length, Float, Option, Some, None}
use Rattle.rows.specs.declared.integration_parameters.IntegrationParameters.{IntegrationParameters}
use Rattle.seeded.specs.Left.{Left, left, seeded_of}
use Rattle.seeded.specs.declared.seeded.SeededModel.{SeededModel}
use Rattle.capi.specs.CallExports.{short_slice}
use Rattle.capi.specs.Stored.{put_three}

-- 2^32, plus 2^16 times the number of bodies, plus the number of joints; or that a slice is too short
abbrev pub seeded_number : Option SeededModel → ℕ
seeded_number (Some d) = 4294967296 + 65536 * d.bodies + d.joints
seeded_number None = short_slice

abbrev put_settings : IntegrationParameters → List Float → List Float
put_settings p out = put_three out 0 p.dt p.length_unit p.normalized_max_corrective_velocity

abbrev pub settings_out : Option SeededModel → List Float → List Float
settings_out (Some d) out = put_settings d.header.params out
settings_out None out = out

-- where there is no room for three settings, nothing is drawn
unfoldable pub seeded_at : ℕ → List Float → List Float → List ℕ → List Float → Left
seeded_at seed settings b w n = cond (leb 3 (length settings)) (seeded_of seed b w n) (left None b w n)
