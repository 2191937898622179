-- The exported frame: what is stored of its counts.
use Rattle.std.specs.Prelude.{ℕ, List}
use Rattle.multibody.specs.Calls.{Answer}
use Rattle.model.specs.Planar.{plane}
use Rattle.capi.specs.CallExports.{counts_out}

-- all 128 of the last sweep where it is granted, and nothing where it is refused
abbrev pub frame_counts_out : Answer plane → List ℕ → List ℕ
frame_counts_out a out = counts_out a out
