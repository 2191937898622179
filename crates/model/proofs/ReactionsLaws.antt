-- A joint's bodies are read where its words are there whole; elsewhere there is the world. Assumes nothing.
use Prim.Native.Nat.{ℕ, ◌+◌, ◌*◌, ◌/◌, ◌≤◌, ◌<◌}
use mathlib.Core.Path.{◌≡◌}
use mathlib.Core.List.{List}
use native.Mathlib.Omega.{arith}
use borrow.Author.Tests.{lt-ltb, le-ltb}
use lib.ListN.{length}
use Rattle.model.specs.Layout.{words_width}
use Rattle.model.specs.Store.{world, body1_at, body2_at}
use Rattle.model.specs.Reactions.{body1_if_there, body2_if_there}

module _ (words : List ℕ) (j : ℕ) where
  pub words-fit : j < length words / words_width → j * words_width + words_width ≤ length words
  words-fit h = omega (arith, h)

  pub body1-there : j < length words / words_width → body1_if_there words j ≡ body1_at words j
  unfolding body1_if_there
  body1-there h = rw (lt-ltb j (length words / words_width) h)

  pub body1-absent : length words / words_width ≤ j → body1_if_there words j ≡ world
  unfolding body1_if_there
  body1-absent h = rw (le-ltb j (length words / words_width) h)

  pub body2-there : j < length words / words_width → body2_if_there words j ≡ body2_at words j
  unfolding body2_if_there
  body2-there h = rw (lt-ltb j (length words / words_width) h)

  pub body2-absent : length words / words_width ≤ j → body2_if_there words j ≡ world
  unfolding body2_if_there
  body2-absent h = rw (le-ltb j (length words / words_width) h)
