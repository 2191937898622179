-- `katydidzinc_rows_build` meets its contract. Each test decides one of the specification's; past them, what is written follows from what the callee ensures.
use borrow.Author.Tests.{le-leb, lt-leb}
use Rattle.comparison.specs.JointExports.{build_count, build_rows, build_ids}
use Rattle.comparison.proofs.joint.katydidzinc_rows_build.Goals as goal

pub returns-then-words-lt9 : goal.returns-then-words-lt9
unfolding build_count build_rows build_ids
returns-then-words-lt9 c = record { value = simp (lt-leb _ _ c.if-words-lt9.true); rows_after = simp (lt-leb _ _ c.if-words-lt9.true); ids_after = simp (lt-leb _ _ c.if-words-lt9.true) }

pub returns-then-numbers-lt60 : goal.returns-then-numbers-lt60
unfolding build_count build_rows build_ids
returns-then-numbers-lt60 c = record { value = simp (le-leb _ _ c.if-words-lt9.false, lt-leb _ _ c.if-numbers-lt60.true); rows_after = simp (le-leb _ _ c.if-words-lt9.false, lt-leb _ _ c.if-numbers-lt60.true); ids_after = simp (le-leb _ _ c.if-words-lt9.false, lt-leb _ _ c.if-numbers-lt60.true) }

pub returns-then-rows-lt108 : goal.returns-then-rows-lt108
unfolding build_count build_rows build_ids
returns-then-rows-lt108 c = record { value = simp (le-leb _ _ c.if-words-lt9.false, le-leb _ _ c.if-numbers-lt60.false, lt-leb _ _ c.if-rows-lt108.true); rows_after = simp (le-leb _ _ c.if-words-lt9.false, le-leb _ _ c.if-numbers-lt60.false, lt-leb _ _ c.if-rows-lt108.true); ids_after = simp (le-leb _ _ c.if-words-lt9.false, le-leb _ _ c.if-numbers-lt60.false, lt-leb _ _ c.if-rows-lt108.true) }

pub returns-then-ids-lt6 : goal.returns-then-ids-lt6
unfolding build_count build_rows build_ids
returns-then-ids-lt6 c = record { value = simp (le-leb _ _ c.if-words-lt9.false, le-leb _ _ c.if-numbers-lt60.false, le-leb _ _ c.if-rows-lt108.false, lt-leb _ _ c.if-ids-lt6.true); rows_after = simp (le-leb _ _ c.if-words-lt9.false, le-leb _ _ c.if-numbers-lt60.false, le-leb _ _ c.if-rows-lt108.false, lt-leb _ _ c.if-ids-lt6.true); ids_after = simp (le-leb _ _ c.if-words-lt9.false, le-leb _ _ c.if-numbers-lt60.false, le-leb _ _ c.if-rows-lt108.false, lt-leb _ _ c.if-ids-lt6.true) }

pub returns : goal.returns
unfolding build_count build_rows build_ids
returns c =
    record { value = simp (le-leb _ _ c.if-words-lt9.false, le-leb _ _ c.if-numbers-lt60.false, le-leb _ _ c.if-rows-lt108.false, le-leb _ _ c.if-ids-lt6.false) (cc); rows_after = simp (le-leb _ _ c.if-words-lt9.false, le-leb _ _ c.if-numbers-lt60.false, le-leb _ _ c.if-rows-lt108.false, le-leb _ _ c.if-ids-lt6.false) (cc); ids_after = simp (le-leb _ _ c.if-words-lt9.false, le-leb _ _ c.if-numbers-lt60.false, le-leb _ _ c.if-rows-lt108.false, le-leb _ _ c.if-ids-lt6.false) (cc) }
