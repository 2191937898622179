-- `write_csv_reaction_heading` meets its contract.
use Rattle.study_text.specs.CsvReaction.{csv_reaction_heading}
use Rattle.study_text.proofs.csv_reaction.write_csv_reaction_heading.Goals as goal

pub returns : goal.returns
unfolding csv_reaction_heading
returns c = c.write_text.ensures
