use Prim.Native.Nat.{ℕ}
use mathlib.Core.Path.{◌≡◌, ap, ◌∙◌}
use native.Mathlib.Omega.{arith}
use lib.ListN.{length, replicate}
use Rattle.texts.specs.Ascii.{SPACE}
use Rattle.texts.proofs.SinkLaws.{put-length, appended-none, appended-text, blanks-turn}
use Rattle.texts.proofs.sink.put_blanks.Goals as goal

pub loop-init : goal.loop-init
loop-init c = appended-none _ _

pub loop-preserved : goal.loop-preserved
loop-preserved c = blanks-turn _ c.loop.invariant c.put_byte-end.ensures

pub shape_of-out : goal.shape_of-out
shape_of-out c = ap length c.loop.invariant.holds ∙ put-length _ _ _

pub returns : goal.returns
returns c = let all : c.loop.counter ≡ c.args.n = omega arith in appended-text (ap (λ (k : ℕ). replicate k SPACE) all) c.loop.invariant
