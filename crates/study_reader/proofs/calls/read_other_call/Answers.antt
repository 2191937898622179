-- `read_other_call` meets its contract, keyword by keyword.
use mathlib.Core.Path.{◌∙◌}
use borrow.Author.Tests.{eq-eqb, ne_eqb}
use Rattle.study_reader.specs.Calls.{other_arguments}
use Rattle.study_reader.proofs.CallLaws.{true-is, false-is}
use Rattle.study_reader.proofs.calls.read_other_call.Goals as goal

pub returns-then-keyword-eq-READ_ROWS : goal.returns-then-keyword-eq-READ_ROWS
unfolding other_arguments
returns-then-keyword-eq-READ_ROWS c = c.read_joint.ensures ∙ true-is _ _ _ (eq-eqb _ _ c.if-keyword-eq-READ_ROWS.true)

pub returns-then-keyword-eq-READ_VELOCITY : goal.returns-then-keyword-eq-READ_VELOCITY
unfolding other_arguments
returns-then-keyword-eq-READ_VELOCITY c = c.read_body.ensures ∙ true-is _ _ _ (eq-eqb _ _ c.if-keyword-eq-READ_VELOCITY.true) ∙ false-is _ _ _ (ne_eqb _ _ c.if-keyword-eq-READ_ROWS.false)

pub returns-then-keyword-eq-SET_TARGETS : goal.returns-then-keyword-eq-SET_TARGETS
unfolding other_arguments
returns-then-keyword-eq-SET_TARGETS c = c.read_file.ensures ∙ true-is _ _ _ (eq-eqb _ _ c.if-keyword-eq-SET_TARGETS.true) ∙ false-is _ _ _ (ne_eqb _ _ c.if-keyword-eq-READ_VELOCITY.false) ∙ false-is _ _ _ (ne_eqb _ _ c.if-keyword-eq-READ_ROWS.false)

pub returns-then-keyword-eq-REPEAT : goal.returns-then-keyword-eq-REPEAT
unfolding other_arguments
returns-then-keyword-eq-REPEAT c = c.read_repeat.ensures ∙ true-is _ _ _ (eq-eqb _ _ c.if-keyword-eq-REPEAT.true) ∙ false-is _ _ _ (ne_eqb _ _ c.if-keyword-eq-SET_TARGETS.false) ∙ false-is _ _ _ (ne_eqb _ _ c.if-keyword-eq-READ_VELOCITY.false) ∙ false-is _ _ _ (ne_eqb _ _ c.if-keyword-eq-READ_ROWS.false)

pub returns-then-keyword-eq-END : goal.returns-then-keyword-eq-END
unfolding other_arguments
returns-then-keyword-eq-END c = c.read_end.ensures ∙ true-is _ _ _ (eq-eqb _ _ c.if-keyword-eq-END.true) ∙ false-is _ _ _ (ne_eqb _ _ c.if-keyword-eq-REPEAT.false) ∙ false-is _ _ _ (ne_eqb _ _ c.if-keyword-eq-SET_TARGETS.false) ∙ false-is _ _ _ (ne_eqb _ _ c.if-keyword-eq-READ_VELOCITY.false) ∙ false-is _ _ _ (ne_eqb _ _ c.if-keyword-eq-READ_ROWS.false)

pub returns-then-keyword-eq-TABLE : goal.returns-then-keyword-eq-TABLE
unfolding other_arguments
returns-then-keyword-eq-TABLE c = c.read_csv.ensures ∙ true-is _ _ _ (eq-eqb _ _ c.if-keyword-eq-TABLE.true) ∙ false-is _ _ _ (ne_eqb _ _ c.if-keyword-eq-END.false) ∙ false-is _ _ _ (ne_eqb _ _ c.if-keyword-eq-REPEAT.false) ∙ false-is _ _ _ (ne_eqb _ _ c.if-keyword-eq-SET_TARGETS.false) ∙ false-is _ _ _ (ne_eqb _ _ c.if-keyword-eq-READ_VELOCITY.false) ∙ false-is _ _ _ (ne_eqb _ _ c.if-keyword-eq-READ_ROWS.false)

pub returns-then-keyword-eq-SETTLE : goal.returns-then-keyword-eq-SETTLE
unfolding other_arguments
returns-then-keyword-eq-SETTLE c = c.read_settle.ensures ∙ true-is _ _ _ (eq-eqb _ _ c.if-keyword-eq-SETTLE.true) ∙ false-is _ _ _ (ne_eqb _ _ c.if-keyword-eq-TABLE.false) ∙ false-is _ _ _ (ne_eqb _ _ c.if-keyword-eq-END.false) ∙ false-is _ _ _ (ne_eqb _ _ c.if-keyword-eq-REPEAT.false) ∙ false-is _ _ _ (ne_eqb _ _ c.if-keyword-eq-SET_TARGETS.false) ∙ false-is _ _ _ (ne_eqb _ _ c.if-keyword-eq-READ_VELOCITY.false) ∙ false-is _ _ _ (ne_eqb _ _ c.if-keyword-eq-READ_ROWS.false)

pub returns-then-keyword-eq-MASKS : goal.returns-then-keyword-eq-MASKS
unfolding other_arguments
returns-then-keyword-eq-MASKS c = c.read_masks.ensures ∙ true-is _ _ _ (eq-eqb _ _ c.if-keyword-eq-MASKS.true) ∙ false-is _ _ _ (ne_eqb _ _ c.if-keyword-eq-SETTLE.false) ∙ false-is _ _ _ (ne_eqb _ _ c.if-keyword-eq-TABLE.false) ∙ false-is _ _ _ (ne_eqb _ _ c.if-keyword-eq-END.false) ∙ false-is _ _ _ (ne_eqb _ _ c.if-keyword-eq-REPEAT.false) ∙ false-is _ _ _ (ne_eqb _ _ c.if-keyword-eq-SET_TARGETS.false) ∙ false-is _ _ _ (ne_eqb _ _ c.if-keyword-eq-READ_VELOCITY.false) ∙ false-is _ _ _ (ne_eqb _ _ c.if-keyword-eq-READ_ROWS.false)

pub returns-then-keyword-eq-FRAME : goal.returns-then-keyword-eq-FRAME
unfolding other_arguments
returns-then-keyword-eq-FRAME c = c.read_frame.ensures ∙ true-is _ _ _ (eq-eqb _ _ c.if-keyword-eq-FRAME.true) ∙ false-is _ _ _ (ne_eqb _ _ c.if-keyword-eq-MASKS.false) ∙ false-is _ _ _ (ne_eqb _ _ c.if-keyword-eq-SETTLE.false) ∙ false-is _ _ _ (ne_eqb _ _ c.if-keyword-eq-TABLE.false) ∙ false-is _ _ _ (ne_eqb _ _ c.if-keyword-eq-END.false) ∙ false-is _ _ _ (ne_eqb _ _ c.if-keyword-eq-REPEAT.false) ∙ false-is _ _ _ (ne_eqb _ _ c.if-keyword-eq-SET_TARGETS.false) ∙ false-is _ _ _ (ne_eqb _ _ c.if-keyword-eq-READ_VELOCITY.false) ∙ false-is _ _ _ (ne_eqb _ _ c.if-keyword-eq-READ_ROWS.false)

pub returns : goal.returns
unfolding other_arguments
returns c = false-is _ _ _ (ne_eqb _ _ c.if-keyword-eq-FRAME.false) ∙ false-is _ _ _ (ne_eqb _ _ c.if-keyword-eq-MASKS.false) ∙ false-is _ _ _ (ne_eqb _ _ c.if-keyword-eq-SETTLE.false) ∙ false-is _ _ _ (ne_eqb _ _ c.if-keyword-eq-TABLE.false) ∙ false-is _ _ _ (ne_eqb _ _ c.if-keyword-eq-END.false) ∙ false-is _ _ _ (ne_eqb _ _ c.if-keyword-eq-REPEAT.false) ∙ false-is _ _ _ (ne_eqb _ _ c.if-keyword-eq-SET_TARGETS.false) ∙ false-is _ _ _ (ne_eqb _ _ c.if-keyword-eq-READ_VELOCITY.false) ∙ false-is _ _ _ (ne_eqb _ _ c.if-keyword-eq-READ_ROWS.false)
