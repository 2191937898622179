-- Write, then read, the theorem of specs/ReadBack.antt: from that of study_writer.
use Prim.Native.Nat.{ℕ, ◌+◌, ◌≤◌}
use mathlib.Core.Path.{◌≡◌}
use mathlib.Core.Bool.{true}
use mathlib.Core.List.{List}
use native.Mathlib.Omega.{arith}
use borrow.Author.Tests.{leb-true, le-leb}
use lib.Ieee.{Float}
use lib.ListN.{length, length-replicate}
use Rattle.multibody.specs.Model.{Model}
use Rattle.multibody.proofs.RuleLaws.{both}
use Rattle.study_reader.specs.Storage.{numbers_size, words_size}
use Rattle.study_writer.specs.Text.{study_text}
use Rattle.study_writer.specs.Printed.{printed_text}
use Rattle.study_writer.specs.ReadBack.{Accepted, Room}
use Rattle.study_writer.proofs.ReadBackLaws.{read_back}
use Rattle.study_capi.specs.StudyExports.{is_room, cleared, cleared_words}
use Rattle.study_capi.specs.ReadBack.{WrittenBack}

printed : (m : Model) → Accepted m → printed_text m ≡ study_text m
unfolding printed_text
printed m p = rw (le-leb _ _ p.few_bodies, le-leb _ _ p.few_joints)

room : (numbers : List Float) (origins words names : List ℕ) → is_room numbers origins words names ≡ true
    → Room (cleared numbers) (cleared_words origins) (cleared_words words) (cleared_words names)
unfolding is_room cleared cleared_words
room numbers origins words names h =
    let a = both _ _ h in
    let b = both _ _ a.1 in
    let c = both _ _ b.1 in
    let o : numbers_size + words_size ≤ length origins = leb-true _ _ b.0 in
    record {
      numbers_room = simp length-replicate (leb-true _ _ a.0);
      origins_room = simp length-replicate (omega (arith, o));
      words_room = simp length-replicate (leb-true _ _ c.0);
      names_room = simp length-replicate (leb-true _ _ c.1);
    }

pub written_back : WrittenBack
written_back m f p numbers origins words names h = rw (printed m p) (read_back m f p _ _ _ _ (room numbers origins words names h))
