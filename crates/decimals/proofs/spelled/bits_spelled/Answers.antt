-- `bits_spelled` meets its contract.
use mathlib.Core.Path.{◌≡◌, refl, ap, ◌∙◌}
use native.Mathlib.Omega.{arith}
use lib.ListN.{length}
use Rattle.decimals.specs.Spelled.{spelled}
use Rattle.decimals.proofs.SpelledLaws.{plain-is}
use borrow.Author.Rules.{rules}
use Rattle.decimals.proofs.spelled.bits_spelled.Goals as goal

pub returns : goal.returns
returns c =
    let t = c.number_text-t in
    let long : length t.result ≡ 10 = search rules in
    plain-is t.result _ _ 10 long (omega arith) refl c.put_text-len.ensures ∙ ap spelled t.ensures
