-- `katydidzinc_load` meets its contract: what its call promises, of the header that was made, read part by part.
use mathlib.Core.Path.{◌∙◌}
use Rattle.capi.proofs.CallExportsLaws.{load-marked, marked-told, words_left}
use Rattle.capi.proofs.calls.katydidzinc_load.Goals as goal

pub returns : goal.returns
returns c =
    let told = rw c.header-h.ensures at c.load.ensures in
    record { value = marked-told _ (c.load_number.ensures ∙ load-marked _ _ _) told; words_after = words_left told }
