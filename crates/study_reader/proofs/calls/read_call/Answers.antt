-- `read_call` meets its contract.
use mathlib.Core.Path.{◌∙◌}
use Rattle.study_reader.specs.Calls.{arguments}
use Rattle.study_reader.proofs.CallLaws.{true-is, false-is, call-is, keyword-is, keyword-not}
use Rattle.study_reader.proofs.calls.read_call.Goals as goal

pub returns-then-keyword-eq-PLACE : goal.returns-then-keyword-eq-PLACE
unfolding arguments
returns-then-keyword-eq-PLACE c =
    let s3 = c.before.before.before in
    let a = s3.args in
    c.read_place.ensures ∙ true-is _ _ _ (keyword-is s3.call_keyword-keyword.result a.w.end _ c.bare_call-l.result c.bare_call-l.ensures c.if-keyword-eq-PLACE.true) ∙ call-is a.text.now a.names.now a.bodies a.joints a.repeats a.w s3.call_keyword-keyword.result c.bare_call-l.result s3.call_keyword-keyword.ensures c.bare_call-l.ensures

pub returns-then-keyword-eq-BUILD : goal.returns-then-keyword-eq-BUILD
unfolding arguments
returns-then-keyword-eq-BUILD c =
    let s3 = c.before.before.before in
    let a = s3.args in
    c.read_build.ensures ∙ true-is _ _ _ (keyword-is s3.call_keyword-keyword.result a.w.end _ s3.bare_call-l.result s3.bare_call-l.ensures c.if-keyword-eq-BUILD.true) ∙ false-is _ _ _ (keyword-not s3.call_keyword-keyword.result a.w.end _ s3.bare_call-l.result s3.bare_call-l.ensures c.if-keyword-eq-PLACE.false) ∙ call-is a.text.now a.names.now a.bodies a.joints a.repeats a.w s3.call_keyword-keyword.result s3.bare_call-l.result s3.call_keyword-keyword.ensures s3.bare_call-l.ensures

pub returns-then-keyword-eq-SWEEP : goal.returns-then-keyword-eq-SWEEP
unfolding arguments
returns-then-keyword-eq-SWEEP c =
    let s3 = c.before.before.before in
    let s5 = s3.before.before in
    let a = s5.args in
    c.read_whole.ensures ∙ true-is _ _ _ (keyword-is s5.call_keyword-keyword.result a.w.end _ s3.bare_call-l.result s3.bare_call-l.ensures c.if-keyword-eq-SWEEP.true) ∙ false-is _ _ _ (keyword-not s5.call_keyword-keyword.result a.w.end _ s3.bare_call-l.result s3.bare_call-l.ensures c.if-keyword-eq-BUILD.false) ∙ false-is _ _ _ (keyword-not s5.call_keyword-keyword.result a.w.end _ s3.bare_call-l.result s3.bare_call-l.ensures s3.if-keyword-eq-PLACE.false) ∙ call-is a.text.now a.names.now a.bodies a.joints a.repeats a.w s5.call_keyword-keyword.result s3.bare_call-l.result s5.call_keyword-keyword.ensures s3.bare_call-l.ensures

pub returns : goal.returns
unfolding arguments
returns c =
    let s3 = c.before.before.before in
    let s5 = s3.before.before in
    let a = s5.args in
    c.read_other_call.ensures ∙ false-is _ _ _ (keyword-not s5.call_keyword-keyword.result a.w.end _ s3.bare_call-l.result s3.bare_call-l.ensures c.if-keyword-eq-SWEEP.false) ∙ false-is _ _ _ (keyword-not s5.call_keyword-keyword.result a.w.end _ s3.bare_call-l.result s3.bare_call-l.ensures c.if-keyword-eq-BUILD.false) ∙ false-is _ _ _ (keyword-not s5.call_keyword-keyword.result a.w.end _ s3.bare_call-l.result s3.bare_call-l.ensures s3.if-keyword-eq-PLACE.false) ∙ call-is a.text.now a.names.now a.bodies a.joints a.repeats a.w s5.call_keyword-keyword.result s3.bare_call-l.result s5.call_keyword-keyword.ensures s3.bare_call-l.ensures
