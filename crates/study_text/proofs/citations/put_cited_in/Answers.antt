-- `put_cited_in` meets its contract.
use mathlib.Core.Path.{sym, ap, ◌∙◌}
use Rattle.rows.specs.RowIds.{has_axis}
use Rattle.texts.proofs.SinkLaws.{appended-none, appended-text}
use Rattle.study_text.proofs.CitationsLaws.{is-cited, not-cited}
use Rattle.study_text.proofs.citations.put_cited_in.Goals as goal

pub returns-then-has_axis : goal.returns-then-has_axis
returns-then-has_axis c = let a = c.args in appended-text (sym (is-cited a.used a.rule (ap (has_axis a.used) (sym c.rule_index.ensures) ∙ sym c.has_axis.ensures ∙ c.if-has_axis.true))) c.put_citation.ensures

pub returns-else-has_axis : goal.returns-else-has_axis
returns-else-has_axis c = let a = c.args in appended-text (sym (not-cited a.used a.rule (ap (has_axis a.used) (sym c.rule_index.ensures) ∙ sym c.has_axis.ensures ∙ c.if-has_axis.false))) (appended-none a.out.now a.at)
