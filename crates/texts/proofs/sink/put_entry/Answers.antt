use Prim.Native.Nat.{zero, ◌-◌}
use mathlib.Core.Path.{refl, sym, ap, ◌∙◌}
use native.Mathlib.Omega.{arith}
use lib.ListN.{length, drop, length-drop}
use lib.Seq.{take_all}
use Rattle.texts.specs.Sink.{entry}
use Rattle.texts.proofs.SinkLaws.{appended-none, appended_then, appended-text, put-length, entry-stop, entry-byte, entry_past}
use Rattle.texts.proofs.sink.put_entry.Goals as goal

pub loop-b-init : goal.loop-b-init
loop-b-init c =
    let k = c.entry_start.result in
    let table = c.args.table.now in
    let all = take_all (length table - k) (drop k table) (omega (arith, length-drop k table)) in
    (refl, λ last r s. appended-text (ap (entry zero) all ∙ c.entry_start.ensures.from) s)

pub shape_of-out-then-b-eq10 : goal.shape_of-out-then-b-eq10
shape_of-out-then-b-eq10 c = c.loop-b.invariant.0

pub returns-then-b-eq10 : goal.returns-then-b-eq10
returns-then-b-eq10 c = c.loop-b.invariant.1 _ _ (appended-text (sym (entry-stop _ _ c.loop-b-test.true c.if-b-eq10.true)) (appended-none _ _))

pub loop-b-preserved : goal.loop-b-preserved
loop-b-preserved c = (ap length c.put_byte-end.ensures.holds ∙ put-length _ _ _ ∙ c.loop-b.invariant.0, λ last r s. c.loop-b.invariant.1 last r (appended-text (sym (entry-byte _ _ c.loop-b-test.true c.if-b-eq10.false)) (appended_then c.put_byte-end.ensures s)))

pub shape_of-out : goal.shape_of-out
shape_of-out c = c.loop-b.invariant.0

pub returns : goal.returns
returns c = c.loop-b.invariant.1 _ _ (appended-text (sym (entry_past zero _ _ c.loop-b-test.false)) (appended-none _ _))
