use mathlib.Core.Path.{refl, ap, subst, ◌∙◌}
use Prim.Native.Nat.{ℕ, ◌≤◌, ◌<◌, ◌+◌, ◌*◌, ◌^◌}
use native.Mathlib.Omega.{arith}
use borrow.Author.Rules.{rules}
use lib.ListN.{drop}
use Rattle.decimals.specs.Words.{bits_after}
use Rattle.std.proofs.Common.{Ok}
use Rattle.decimals.proofs.WordLaws.{bits-digit, bits-fault, bits-end, hex-more, hex-room}
use Rattle.decimals.proofs.number.hex_digits.Goals as goal
use Rattle.decimals.proofs.number.hex_digits.Goals.{Else-d-ge16}

room : (c : Else-d-ge16) → c.loop-i.v * 16 + c.hex_value-d.result < 2 ^ 32
room c = hex-room c.loop-i.v c.hex_value-d.result c.loop-i.i (omega (arith, c.loop-i-test.true, c.requires)) c.loop-i.invariant.0 c.if-d-ge16.false

pub loop-i-init : goal.loop-i-init
loop-i-init c = (search rules, refl)

pub returns-then-d-ge16 : goal.returns-then-d-ge16
returns-then-d-ge16 c = bits-fault c.args.word.now c.loop-i.i c.loop-i.v c.loop-i-test.true (subst (λ (x : ℕ). 16 ≤ x) c.hex_value-d.ensures c.if-d-ge16.true) ∙ c.loop-i.invariant.1

pub overflow_mul-v : goal.overflow_mul-v
overflow_mul-v c = record { fits = omega (arith, room c) }

pub overflow_add-v : goal.overflow_add-v
overflow_add-v c = record { fits = room c }

pub loop-i-preserved : goal.loop-i-preserved
loop-i-preserved c = (
  hex-more c.loop-i.v c.hex_value-d.result c.loop-i.i (omega arith) c.loop-i.invariant.0 c.if-d-ge16.false,
  ap (λ (d : ℕ). bits_after (c.loop-i.v * 16 + d) (drop (c.loop-i.i + 1) c.args.word.now)) c.hex_value-d.ensures
      ∙ bits-digit c.args.word.now c.loop-i.i c.loop-i.v c.loop-i-test.true (subst (λ (x : ℕ). x < 16) c.hex_value-d.ensures c.if-d-ge16.false)
      ∙ c.loop-i.invariant.1,
)

pub returns : goal.returns
returns c = ap Ok c.from_bits.ensures ∙ bits-end c.args.word.now c.loop-i.i c.loop-i.v c.loop-i-test.false ∙ c.loop-i.invariant.1
