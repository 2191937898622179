-- `signed_text` meets its contract.
use mathlib.Core.Path.{◌≡◌, refl, sym, ap, ◌∙◌}
use native.Mathlib.Omega.{arith}
use lib.ListN.{length}
use mathlib.Core.Bool.{Bool}
use Rattle.decimals.specs.Spelled.{signed_text, spelled}
use Rattle.decimals.proofs.SpelledLaws.{plain-is, minus_is}
use borrow.Author.Rules.{rules}
use Rattle.decimals.proofs.spelled.signed_text.Goals as goal

pub returns-then-negative : goal.returns-then-negative
returns-then-negative c =
    let a = c.args in
    let long : length a.t ≡ 14 = search rules in
    minus_is a.t _ _ 14 long (omega arith) refl c.put_text-len.ensures ∙ ap (λ (b : Bool). spelled (signed_text b a.t)) (sym c.if-negative.true)

pub returns : goal.returns
returns c =
    let a = c.args in
    let long : length a.t ≡ 14 = search rules in
    plain-is a.t _ _ 14 long (omega arith) refl c.put_text-len-2.ensures ∙ ap (λ (b : Bool). spelled (signed_text b a.t)) (sym c.if-negative.false)
