-- `put_id` meets its contract.
use mathlib.Core.Path.{ap, ◌∙◌}
use Prim.Native.Nat.{ℕ}
use mathlib.Core.List.{[], ◌∷◌, ◌++◌}
use Rattle.texts.proofs.SinkLaws.{appended_then, appended-text}
use Rattle.catalogue.specs.Text.{axis_digit, kind_text}
use Rattle.catalogue.proofs.TextLaws.{id-words}
use Rattle.catalogue.proofs.text.put_id.Goals as goal

pub returns : goal.returns
returns c =
    let id = c.args.id in
    appended-text
    (ap (λ (d : ℕ). kind_text id ++ d ∷ []) (c.axis_digit.ensures ∙ ap axis_digit c.axis_of.ensures) ∙ id-words id)
    (appended_then (appended-text c.kind_text.ensures c.put_text-a.ensures) c.put_byte.ensures)
