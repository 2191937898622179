-- `katydidzinc_rotation_columns` meets its contract. Each of the two tests decides one of the specification's; past them, what is written follows from what the callees ensure. Assumes nothing.
use borrow.Author.Tests.{le-leb, lt-leb}
use Rattle.comparison.specs.Exports.{rotation_columns}
use Rattle.comparison.proofs.katydidzinc_rotation_columns.Goals as goal

pub returns-then-x-lt13 : goal.returns-then-x-lt13
unfolding rotation_columns
returns-then-x-lt13 c = simp (lt-leb _ _ c.if-x-lt13.true)

pub returns-then-out-lt6 : goal.returns-then-out-lt6
unfolding rotation_columns
returns-then-out-lt6 c = simp (le-leb _ _ c.if-x-lt13.false, lt-leb _ _ c.if-out-lt6.true)

pub returns : goal.returns
unfolding rotation_columns
returns c =
    simp (le-leb _ _ c.if-x-lt13.false, le-leb _ _ c.if-out-lt6.false) (cc (c.put_two.ensures, c.transform_vector.ensures, c.angle.ensures, c.put_vector-2.ensures, c.column-2.ensures, c.put_vector.ensures, c.column.ensures, c.to_mat-m.ensures, c.rotation_at-a.ensures))
