-- What "nearest" says of a rounded fraction, for a reader who would rather not read the library's `round`. Values are counted in units of 2^-149, the smallest
-- binary32 value: each finite value has q · 2^j of them, for a q below 2^24. That `decimal_of` has this property is the theorem of proofs/NearestLaws.antt.
use Rattle.std.specs.Prelude.{◌≡◌, ℕ, ◌+◌, ◌-◌, ◌*◌, ◌%◌, ◌^◌, ◌≤◌, ◌<◌}

abbrev pub distance : ℕ → ℕ → ℕ
distance a b = a - b + (b - a)

-- c · 2^k units are as near to num / den as those of any value are, and half way between c - 1 or c + 1 and c the number c is even. Distances are multiplied by den, so that
-- they are whole numbers.
pub record NearestUnits (num den c k : ℕ) : Type 0 where
  pub least : (q j : ℕ) → q < 2 ^ 24 → distance (num * 2 ^ 149) (c * 2 ^ k * den) ≤ distance (num * 2 ^ 149) (q * 2 ^ j * den)
  pub even : distance (num * 2 ^ 149) (c * 2 ^ k * den) * 2 ≡ 2 ^ k * den → c % 2 ≡ 0
