-- `refusal_place` meets its contract: settings, then bodies, then joints.
use mathlib.Core.Path.{sym, ◌∙◌}
use Rattle.model.proofs.PlaceSearch.{first_part, later-part}
use Rattle.model.proofs.refusal_place.refusal_place.Goals as goal

pub returns-then-is_some : goal.returns-then-is_some
returns-then-is_some c = first_part _ _ c.setting_place-s.ensures (sym c.is_some.ensures ∙ c.if-is_some.true)

pub returns-then-is_some-2 : goal.returns-then-is_some-2
returns-then-is_some-2 c =
    first_part _ _ c.all_bodies_place-b.ensures (sym c.is_some-2.ensures ∙ c.if-is_some-2.true)
    ∙ later-part _ _ c.setting_place-s.ensures (sym c.is_some.ensures ∙ c.if-is_some.false)

pub returns : goal.returns
returns c =
    c.all_joints_place.ensures
    ∙ later-part _ _ c.all_bodies_place-b.ensures (sym c.is_some-2.ensures ∙ c.if-is_some-2.false)
    ∙ later-part _ _ c.setting_place-s.ensures (sym c.is_some.ensures ∙ c.if-is_some.false)
