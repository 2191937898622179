-- Records of w numbers each, one after the other in a flat list.
use Rattle.std.specs.Prelude.{ℕ, suc, ◌+◌, ◌*◌, List, [], ◌∷◌, get_or, set, Float}
use Rattle.std.specs.Float.{nan}

-- number j of the record that starts at place o
abbrev pub num_from : List Float → ℕ → ℕ → Float
num_from s o j = get_or s (o + j) nan

-- number j of record k
abbrev pub num : ℕ → List Float → ℕ → ℕ → Float
num w s k j = num_from s (k * w) j

-- word j of record k
abbrev pub word : ℕ → List ℕ → ℕ → ℕ → ℕ
word w s k j = get_or s (k * w + j) 0

-- the list with vs stored from number j on of the record that starts at place o
abbrev pub puts : List Float → ℕ → ℕ → List Float → List Float
puts s o j [] = s
puts s o j (v ∷ vs) = puts (set s (o + j) v) o (suc j) vs
