-- `body_passes` meets its contract: its letters are rule 6's list of a body.
use mathlib.Core.Path.{◌∙◌}
use Rattle.model.specs.Refusals.{body_asks}
use Rattle.model.proofs.PlaceSearch.{by-letters}
use Rattle.model.proofs.refusal_place.body_passes.Goals as goal

pub returns : goal.returns
returns c =
    let a = c.args in
    c.letter_passes.ensures ∙ by-letters body_asks a.c a.x
