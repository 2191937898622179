-- What the code over any kind of system asks of space: the widths of its records are its store's, none is empty, and nine rows are no more than a joint's words.
use lib.Dec.{lit≤, lit<}
use mathlib.Core.Path.{refl}
use Rattle.multibody.specs.Kind.{Widths}
use Rattle.spatial_model.specs.Layout.{row_width, body_width, words_width, numbers_width}
use Rattle.spatial_model.specs.Spatial.{space}

pub widths : Widths space row_width body_width words_width numbers_width
widths = record {
  row = refl;
  body = refl;
  words = refl;
  numbers = refl;
  row-wide = lit< tt;
  body-wide = lit< tt;
  words-wide = lit< tt;
  numbers-wide = lit< tt;
  few = lit≤ tt;
  byte = lit≤ tt;
}
