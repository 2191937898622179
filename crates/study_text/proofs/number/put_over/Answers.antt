-- `put_over` meets its contract.
use Rattle.std.proofs.Common.{sym, ap, ◌∙◌, inl, inr}
use Rattle.texts.proofs.SinkLaws.{appended-text}
use Rattle.floats.specs.declared.bits.Parts.TheVariants.{Infinite}
use Rattle.study_text.proofs.NumberLaws.{over-parts, over-by-parts}
use Rattle.study_text.proofs.number.put_over.Goals as goal

pub returns-in-Infinite-true : goal.returns-in-Infinite-true
unfolding over-parts
returns-in-Infinite-true c =
    let i = c.in-Infinite-true in
    appended-text (ap over-parts (sym (i.is ∙ ap Infinite i.field-0-test) ∙ c.parts_of.ensures) ∙ over-by-parts _) c.put_text.ensures

pub returns-in-Infinite-false : goal.returns-in-Infinite-false
unfolding over-parts
returns-in-Infinite-false c =
    let i = c.in-Infinite-false in
    appended-text (ap over-parts (sym (i.is ∙ ap Infinite i.field-0-test) ∙ c.parts_of.ensures) ∙ over-by-parts _) c.put_text-in-Infinite-false.ensures

pub returns-in-Finite : goal.returns-in-Finite
unfolding over-parts
returns-in-Finite c =
    elim c.in-Finite.is [
      | inl w ↦ appended-text (ap over-parts (sym w.3 ∙ c.parts_of.ensures) ∙ over-by-parts _) c.put_text-in-Finite.ensures
      | inr e ↦ appended-text (ap over-parts (sym e ∙ c.parts_of.ensures) ∙ over-by-parts _) c.put_text-in-Finite.ensures
    ]
