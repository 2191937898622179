-- What is left in a lent slice.
use Rattle.std.specs.Prelude.{cond, List, ◌++◌, ℕ, leb, length, drop}

-- a text at the front and then what stood past it, or all as it was where the text is longer
unfoldable pub written : List ℕ → List ℕ → List ℕ
written out text = cond (leb (length text) (length out)) (text ++ drop (length text) out) out
