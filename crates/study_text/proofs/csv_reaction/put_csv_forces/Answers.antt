-- `put_csv_forces` meets its contract.
use Rattle.texts.proofs.SinkLaws.{appended_then}
use Rattle.study_text.specs.CsvReaction.{csv_forces}
use Rattle.study_text.proofs.csv_reaction.put_csv_forces.Goals as goal

pub returns : goal.returns
unfolding csv_forces
returns c = appended_then c.put_csv_numbers-a.ensures c.put_csv_numbers.ensures
