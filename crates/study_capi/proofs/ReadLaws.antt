-- What the exported reading says and leaves, in terms of what the calls below it promise.
use Prim.Native.Nat.{ℕ}
use mathlib.Core.Path.{◌≡◌, ap}
use mathlib.Core.Bool.{true, false}
use mathlib.Core.List.{List}
use lib.Ieee.{Float}
use Rattle.study_reader.specs.Draft.{Draft, draft}
use Rattle.study_reader.specs.Study.{read_study}
use Rattle.study_reader.specs.declared.draft.State.{State}
use Rattle.study_capi.specs.declared.read.StudyRead.{StudyRead}
use Rattle.study_capi.specs.StudyExports.{is_room, short_read, cleared, cleared_words, told, Left, left, study_read, read_at}

-- the answer, and each slice
pub parts : {l m : Left} → l ≡ m → (l.answer ≡ m.answer) × ((l.numbers ≡ m.numbers) × ((l.origins ≡ m.origins) × ((l.words ≡ m.words) × (l.names ≡ m.names))))
parts e =
    (ap (λ (l : Left). l.answer) e, (ap (λ (l : Left). l.numbers) e, (ap (λ (l : Left). l.origins) e, (ap (λ (l : Left). l.words) e, ap (λ (l : Left). l.names) e))))

module _ (text : List ℕ) (numbers : List Float) (origins words names : List ℕ) where
  -- a reading into slices that were cleared
  pub all-cleared : {n : List Float} {o w m : List ℕ} {d : Draft} → n ≡ cleared numbers → o ≡ cleared_words origins → w ≡ cleared_words words → m ≡ cleared_words names
      → d ≡ read_study text n o w m → d ≡ study_read text numbers origins words names
  all-cleared a b c d e = rw (← a, ← b, ← c, ← d) e

  pub left-read : {r : StudyRead} {st : State} {n : List Float} {o w m : List ℕ} → is_room numbers origins words names ≡ true
      → draft st n o w m ≡ study_read text numbers origins words names → r ≡ told text st → left r n o w m ≡ read_at text numbers origins words names
  unfolding read_at
  left-read room e t = rw (room, ← e, t)

  pub left-unread : {r : StudyRead} → is_room numbers origins words names ≡ false → r ≡ short_read
      → left r numbers origins words names ≡ read_at text numbers origins words names
  unfolding read_at
  left-unread room t = rw (room, t)
