-- `put_all` meets its contract: what the rules from the index on say is left to write.
use mathlib.Core.Path.{◌≡◌}
use mathlib.Core.List.{flat_map}
use lib.ListN.{length, drop}
use Rattle.texts.proofs.SinkLaws.{Rest}
use Rattle.study_text.specs.Citations.{rules, cited_in}
use Rattle.study_text.proofs.citations.put_all.Given as goal

abbrev pub invariant-loop-rule : goal.invariant-loop-rule
invariant-loop-rule l = (length l.out ≡ length l.initial.out) × Rest l.initial.out l.at (flat_map (cited_in l.used) rules) l.out l.end (flat_map (cited_in l.used) (drop l.rule-index rules))
