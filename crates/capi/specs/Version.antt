-- The version of the library, and that of the records that it reads and writes.
use Rattle.std.specs.Prelude.{ℕ, ◌+◌, ◌*◌}

-- major, minor and patch, in steps of a thousand
abbrev version_of : ℕ → ℕ → ℕ → ℕ
version_of major minor patch = major * 1000000 + minor * 1000 + patch

abbrev pub version_number : ℕ
version_number = version_of 1 0 0

-- records of other widths, or with their parts in another order, have another number
abbrev pub layout_number : ℕ
layout_number = 1
