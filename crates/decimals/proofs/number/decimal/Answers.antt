-- `decimal` meets its contract, case by case.
use mathlib.Core.Path.{sym, ap, ◌∙◌}
use mathlib.Core.Bool.{Bool}
use Rattle.std.proofs.Common.{Ok}
use Rattle.decimals.specs.Words.{decimal_read}
use Rattle.decimals.proofs.ReadLaws.{read-many, read_down, read_up}
use Rattle.decimals.proofs.number.decimal.Goals as goal

pub returns-then-w-ge10000000000000000000 : goal.returns-then-w-ge10000000000000000000
returns-then-w-ge10000000000000000000 c = read-many _ _ _ _ c.args.down c.if-w-ge10000000000000000000.true

pub returns-then-down : goal.returns-then-down
returns-then-down c =
    let a = c.args in
    ap Ok c.signed.ensures
    ∙ read_down a.negative a.w a.f a.e _ c.if-w-ge10000000000000000000.false c.with_negative_exponent.ensures
    ∙ ap (λ (d : Bool). decimal_read a.negative a.w a.f d a.e) (sym c.if-down.true)

pub returns : goal.returns
returns c =
    let a = c.args in
    ap Ok c.signed-2.ensures
    ∙ read_up a.negative a.w a.f a.e _ c.if-w-ge10000000000000000000.false c.with_exponent.ensures
    ∙ ap (λ (d : Bool). decimal_read a.negative a.w a.f d a.e) (sym c.if-down.false)
