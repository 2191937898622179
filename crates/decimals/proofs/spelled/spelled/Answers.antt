-- `spelled` meets its contract.
use mathlib.Core.Path.{◌≡◌, sym, ap, ◌∙◌}
use mathlib.Core.List.{List}
use Prim.Native.Nat.{ℕ}
use Rattle.decimals.specs.Words.{reading_of}
use Rattle.decimals.specs.Spelled.{nine_digits, reads_as, spelled}
use Rattle.decimals.proofs.SpelledLaws.{inside, taken, the-nine, the-bits}
use Rattle.decimals.proofs.spelled.spelled.Goals as goal
use Rattle.decimals.proofs.spelled.spelled.Goals.{After-reads_as}

read : (c : After-reads_as) → c.reads_as.result ≡ reads_as c.args.x (reading_of (nine_digits c.args.x))
read c = c.reads_as.ensures ∙ ap (λ (l : List ℕ). reads_as c.args.x (reading_of l)) (taken _ c.nine_digits-nine.ensures)

pub reads_as-requires : goal.reads_as-requires
reads_as-requires c = inside _ c.nine_digits-nine.ensures

pub returns-then-reads_as : goal.returns-then-reads_as
returns-then-reads_as c = c.nine_digits-nine.ensures ∙ ap spelled (the-nine _ (sym (read c.before) ∙ c.if-reads_as.true))

pub returns : goal.returns
returns c = c.bits_spelled.ensures ∙ ap spelled (the-bits _ (sym (read c.before.before) ∙ c.if-reads_as.false))
