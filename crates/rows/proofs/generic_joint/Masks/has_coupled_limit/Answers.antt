-- `has_coupled_limit` meets its contract: F is the only member of the list, or the list is empty.
use mathlib.Core.Path.{sym, ◌∙◌}
use borrow.Author.Tests.{lt-ltb, le-ltb}
use Rattle.rows.specs.RowIds.{is_limit}
use Rattle.rows.proofs.CoupledIds.{coupled-named, coupled-none}
use Rattle.rows.proofs.generic_joint.Masks.has_coupled_limit.Goals as goal

pub returns-then-f-lt2 : goal.returns-then-f-lt2
returns-then-f-lt2 c =
    c.is_limit.ensures
    ∙ sym (coupled-named (is_limit c.args.self) _ _ c.first_coupled_lin_axis_id-f.ensures (lt-ltb _ _ c.if-f-lt2.true))

pub returns-else-f-lt2 : goal.returns-else-f-lt2
returns-else-f-lt2 c =
    let f = c.first_coupled_lin_axis_id-f.result in
    let none = le-ltb f 2 c.if-f-lt2.false in
    none ∙ sym (coupled-none (is_limit c.args.self) _ f c.first_coupled_lin_axis_id-f.ensures none)
