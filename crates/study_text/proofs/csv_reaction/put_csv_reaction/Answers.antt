-- `put_csv_reaction` meets its contract.
use Rattle.texts.proofs.SinkLaws.{appended_then}
use Rattle.study_text.specs.CsvReaction.{csv_reaction_text, csv_reaction_values}
use Rattle.study_text.proofs.csv_reaction.put_csv_reaction.Goals as goal

pub returns : goal.returns
unfolding csv_reaction_text csv_reaction_values
returns c = appended_then c.put_csv_names-a.ensures (appended_then c.put_csv_forces-b.ensures c.put_csv_turned.ensures)
