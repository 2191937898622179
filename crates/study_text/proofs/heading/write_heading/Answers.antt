-- `write_heading` meets its contract.
use Rattle.study_text.specs.Heading.{heading}
use Rattle.study_text.proofs.heading.write_heading.Goals as goal

pub returns : goal.returns
unfolding heading
returns c = c.write_text.ensures
