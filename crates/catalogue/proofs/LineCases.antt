-- Two lines: the request's own, and that of a choice with no row.
use mathlib.Core.Path.{◌≡◌, refl, ◌∙◌}
use mathlib.Core.List.{flat_map}
use native.Mathlib.Omega.{arith}
use Rattle.texts.specs.Ascii.{ascii}
use Rattle.rows.specs.RowIds.{has_axis, row_ids}
use Rattle.catalogue.specs.Choices.{choice_of}
use Rattle.catalogue.specs.Text.{spaced_id, head_text, line_text, line_at}
use Rattle.catalogue.proofs.TextLaws.{there-line}

pub line-1824 : line_at 1824 ≡ ascii "3 4 4 0 4 Motor2 Dof0 Dof1 Limit2\n"
unfolding line_text head_text spaced_id choice_of row_ids has_axis flat_map
line-1824 = there-line 1824 (omega arith) ∙ refl

pub line-0 : line_at 0 ≡ ascii "0 0 0 0 0\n"
unfolding line_text head_text spaced_id choice_of row_ids has_axis flat_map
line-0 = there-line 0 (omega arith) ∙ refl
