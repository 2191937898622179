-- What the exported call that draws a model says and leaves, in terms of what the calls below it promise.
use Prim.Native.Nat.{ℕ, ◌+◌, ◌*◌, ◌≤◌, ◌<◌}
use mathlib.Core.Path.{◌≡◌, sym, ap, ◌∙◌}
use mathlib.Core.Bool.{true, false}
use mathlib.Core.List.{List}
use borrow.Author.Tests.{lt-leb, le-leb}
use lib.Dec.{leb}
use lib.ListN.{length}
use lib.Ieee.{Float}
use Rattle.std.specs.Prelude.{Option, Some, None}
use Rattle.seeded.specs.Left.{Left, left, seeded_of}
use Rattle.seeded.specs.declared.seeded.SeededModel.{SeededModel}
use Rattle.capi.specs.Stored.{put_three}
use Rattle.capi.specs.SeedExports.{seeded_number, settings_out, seeded_at}

-- ---- a model is drawn

pub answer-told : {a : Option SeededModel} {d : SeededModel} → a ≡ Some d → 4294967296 + 65536 * d.bodies + d.joints ≡ seeded_number a
answer-told e = ap seeded_number (sym e)

pub settings-told : {a : Option SeededModel} {d : SeededModel} (s : List Float) {out : List Float} → a ≡ Some d
    → out ≡ put_three s 0 d.header.params.dt d.header.params.length_unit d.header.params.normalized_max_corrective_velocity → out ≡ settings_out a s
settings-told s e o = o ∙ ap (λ (a : Option SeededModel). settings_out a s) (sym e)

-- ---- the exported call: its answer, and each of its slices

pub record Drawn (seed : ℕ) (st b : List Float) (w : List ℕ) (n : List Float) (k : ℕ) (st' b' : List Float) (w' : List ℕ) (n' : List Float) : Type 0 where
  pub told : k ≡ seeded_number (seeded_at seed st b w n).answer
  pub settings : st' ≡ settings_out (seeded_at seed st b w n).answer st
  pub bodies : b' ≡ (seeded_at seed st b w n).bodies
  pub words : w' ≡ (seeded_at seed st b w n).words
  pub numbers : n' ≡ (seeded_at seed st b w n).numbers

module _ (seed : ℕ) (st b : List Float) (w : List ℕ) (n : List Float) where
  short-at : length st < 3 → left None b w n ≡ seeded_at seed st b w n
  unfolding seeded_at
  short-at h =
      let e : leb 3 (length st) ≡ false = lt-leb _ _ h in
      simp e

  room_at : 3 ≤ length st → seeded_of seed b w n ≡ seeded_at seed st b w n
  unfolding seeded_at
  room_at h =
      let e : leb 3 (length st) ≡ true = le-leb _ _ h in
      simp e

  pub short-drawn : length st < 3 → Drawn seed st b w n 1000 st b w n
  short-drawn h =
      let e = short-at h in
      record {
        told = ap (λ (l : Left). seeded_number l.answer) e;
        settings = ap (λ (l : Left). settings_out l.answer st) e;
        bodies = ap (λ (l : Left). l.bodies) e;
        words = ap (λ (l : Left). l.words) e;
        numbers = ap (λ (l : Left). l.numbers) e;
      }

  pub room-drawn : {r : Option SeededModel} {k : ℕ} {st' b' : List Float} {w' : List ℕ} {n' : List Float} → 3 ≤ length st → left r b' w' n' ≡ seeded_of seed b w n
      → k ≡ seeded_number r → st' ≡ settings_out r st → Drawn seed st b w n k st' b' w' n'
  room-drawn h d told settings =
      let e = d ∙ room_at h in
      record {
        told = told ∙ ap (λ (l : Left). seeded_number l.answer) e;
        settings = settings ∙ ap (λ (l : Left). settings_out l.answer st) e;
        bodies = ap (λ (l : Left). l.bodies) e;
        words = ap (λ (l : Left). l.words) e;
        numbers = ap (λ (l : Left). l.numbers) e;
      }
