-- `is_textdata` meets its contract, range by range.
use Rattle.std.proofs.Common.{sym, ◌∙◌, arith, le-leb}
use borrow.Author.Tests.{lt-leb}
use Rattle.motor_table.proofs.Textdata.{controls, before-quote, quote, before-comma, comma, after-comma}
use Rattle.motor_table.proofs.rfc4180.is_textdata.Goals as goal

pub returns-in-32-to-33 : goal.returns-in-32-to-33
returns-in-32-to-33 c = before-quote _ (omega arith) (omega arith)

pub returns-in-32-to-33-2 : goal.returns-in-32-to-33-2
returns-in-32-to-33-2 c = before-comma _ (omega arith) (omega arith)

pub returns-in-32-to-33-3 : goal.returns-in-32-to-33-3
returns-in-32-to-33-3 c = sym (le-leb _ 0x7e (omega arith)) ∙ after-comma _ (omega arith)

pub returns-in_default : goal.returns-in_default
returns-in_default c = controls _ (omega arith)

pub returns-in_default-2 : goal.returns-in_default-2
returns-in_default-2 c = quote _ (omega arith) (omega arith)

pub returns-in_default-3 : goal.returns-in_default-3
returns-in_default-3 c = comma _ (omega arith) (omega arith)

pub returns-in_default-4 : goal.returns-in_default-4
returns-in_default-4 c = sym (lt-leb _ 0x7e (omega arith)) ∙ after-comma _ (omega arith)
