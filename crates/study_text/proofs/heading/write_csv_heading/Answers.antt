-- `write_csv_heading` meets its contract.
use Rattle.study_text.specs.Heading.{csv_heading}
use Rattle.study_text.proofs.heading.write_csv_heading.Goals as goal

pub returns : goal.returns
unfolding csv_heading
returns c = c.write_text.ensures
