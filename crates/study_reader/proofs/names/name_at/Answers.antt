-- `name_at` meets its contract.
use mathlib.Core.Path.{sym, ap, ◌∙◌}
use Prim.Native.Nat.{ℕ, ◌+◌}
use native.Mathlib.Omega.{arith}
use lib.ListN.{get_or, get_or-eq_default}
use Rattle.study_reader.specs.Names.{name_at}
use Rattle.study_reader.specs.declared.words.Word.{Word}
use Rattle.study_reader.proofs.names.name_at.Goals as goal

abbrev word : ℕ → ℕ → Word
word b e = record { start = b; end = e }

pub overflow_cast-result : goal.overflow_cast-result
overflow_cast-result c = omega (arith, c.type_inv.names c.args.at)

pub returns-then-at-names : goal.returns-then-at-names
unfolding name_at
returns-then-at-names c = ap (λ (e : ℕ). word (get_or c.args.names.now c.args.at 0) e) c.word_at.ensures

pub returns : goal.returns
unfolding name_at
returns c = ap (λ (e : ℕ). word 0 e) (sym (get_or-eq_default c.args.names.now 0 (omega (arith, c.if-at-names.false)))) ∙ ap (λ (b : ℕ). word b (get_or c.args.names.now (c.args.at + 1) 0)) (sym (get_or-eq_default c.args.names.now 0 c.if-at-names.false))
