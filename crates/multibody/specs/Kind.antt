-- What the code over any kind of system goes by: its widths are the store's, no record is empty, and a joint has no more rows than its record has words, or than a byte counts.
use Rattle.std.specs.Prelude.{ℕ, ◌≤◌, ◌<◌, ◌≡◌}
use Rattle.multibody.specs.Store.{Store}

pub record Widths (store : Store) (r b w n : ℕ) : Type 0 where
  pub row : r ≡ store.row_width
  pub body : b ≡ store.body_width
  pub words : w ≡ store.words_width
  pub numbers : n ≡ store.numbers_width
  pub row-wide : 0 < store.row_width
  pub body-wide : 0 < store.body_width
  pub words-wide : 0 < store.words_width
  pub numbers-wide : 0 < store.numbers_width
  pub few : store.most_rows ≤ store.words_width
  pub byte : store.most_rows ≤ 255
