use mathlib.Core.Path.{sym, ap, ◌∙◌}
use Rattle.study_reader.specs.Calls.{of_bits, bits_word, mask_or_bits, mask_word}
use Rattle.study_reader.proofs.calls.mask_word.Goals as goal

pub returns-in-Some : goal.returns-in-Some
unfolding mask_word mask_or_bits
returns-in-Some c = rw (c.with_mask.ensures, ← c.mask_named.ensures, c.in-Some.is)

pub returns-in_default-mask : goal.returns-in_default-mask
unfolding mask_word mask_or_bits bits_word
returns-in_default-mask c =
    let a = c.args in
    c.wrong.ensures ∙ sym (ap (mask_or_bits a.text.now a.l a.w) (sym c.mask_named.ensures ∙ c.in_default.is) ∙ ap (bits_word a.text.now a.l a.w) c.in_default-mask.is)

pub returns-in-Some-bits_of : goal.returns-in-Some-bits_of
unfolding mask_word mask_or_bits bits_word of_bits
returns-in-Some-bits_of c =
    let a = c.args in
    c.with_axes.ensures
    ∙ sym
    (ap (mask_or_bits a.text.now a.l a.w) (sym c.mask_named.ensures ∙ c.in_default.is)
    ∙ ap (bits_word a.text.now a.l a.w) c.in-Some-mask.is
    ∙ ap (of_bits a.l a.w c.in-Some-mask.i) (sym c.bits_of.ensures ∙ c.in-Some-bits_of.is))

pub returns-in-None : goal.returns-in-None
unfolding mask_word mask_or_bits bits_word of_bits
returns-in-None c =
    let a = c.args in
    c.wrong-in-None.ensures
    ∙ sym
    (ap (mask_or_bits a.text.now a.l a.w) (sym c.mask_named.ensures ∙ c.in_default.is)
    ∙ ap (bits_word a.text.now a.l a.w) c.in-Some-mask.is
    ∙ ap (of_bits a.l a.w c.in-Some-mask.i) (sym c.bits_of.ensures ∙ c.in-None.is))
