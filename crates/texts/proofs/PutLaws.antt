-- Of no text there is nothing to write.
use Prim.Native.Nat.{ℕ}
use mathlib.Core.Path.{◌≡◌, sym, ap, ◌∙◌}
use mathlib.Core.Bool.{Bool, cond}
use mathlib.Core.List.{List, []}
use native.Mathlib.Omega.{arith}
use borrow.Author.Tests.{le-leb}
use lib.ListN.{length}
use Rattle.texts.specs.Written.{written}

pub empty-written : (out text : List ℕ) → text ≡ [] → out ≡ written out text
unfolding written
empty-written out text e = sym (ap (written out) e ∙ ap (λ (b : Bool). cond b out out) (le-leb 0 (length out) (omega arith)))
