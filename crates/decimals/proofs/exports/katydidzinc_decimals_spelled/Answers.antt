-- The export of `spelled` meets its contract.
use mathlib.Core.Path.{◌≡◌, ap, ◌∙◌}
use native.Mathlib.Omega.{arith}
use lib.Ieee.{Float, binary32, of_bits}
use Rattle.decimals.specs.Spelled.{spelled_text, spelled}
use Rattle.decimals.proofs.SpelledLaws.{word-short, byte-is, byte_past}
use Rattle.decimals.proofs.exports.katydidzinc_decimals_spelled.Goals as goal
use Rattle.decimals.proofs.exports.katydidzinc_decimals_spelled.Goals.{After-spelled-text}

word : (c : After-spelled-text) → c.spelled-text.result ≡ spelled (spelled_text (of_bits binary32 c.args.bits))
word c = c.spelled-text.ensures ∙ ap (λ (x : Float). spelled (spelled_text x)) c.from_bits.ensures

pub bounds-bytes-i : goal.bounds-bytes-i
bounds-bytes-i c = omega (arith, word-short _ (word c.before.before.before))

pub returns-then-i-text : goal.returns-then-i-text
returns-then-i-text c = byte-is _ (word c.before.before.before) _ c.if-i-text.true

pub returns : goal.returns
returns c = byte_past _ (word c.before.before.before) _ c.if-i-text.false
