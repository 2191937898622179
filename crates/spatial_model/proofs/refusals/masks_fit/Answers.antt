use Prim.Native.Nat.{◌+◌, ◌*◌}
use mathlib.Core.Bool.{not, true, false}
use mathlib.Core.Path.{◌≡◌, refl, sym, ap, ◌∙◌}
use native.Mathlib.Nat.{add_assoc}
use borrow.Author.Tests.{lt-ltb, le-ltb}
use borrow.Author.Rules.{rules}
use lib.Dec.{ltb}
use Rattle.spatial_model.specs.Layout.{words_width, masks_place}
use Rattle.multibody.specs.Records.{word}
use Rattle.spatial_model.specs.Refusals.{all_axes, masks_fit}
use Rattle.multibody.proofs.RuleLaws.{all-turn-from, all-stop, all_done}
use Rattle.spatial_model.proofs.refusals.masks_fit.Goals as goal

pub loop-c-init : goal.loop-c-init
unfolding masks_fit
loop-c-init c = (search rules, refl)

pub returns-then-words-o-gt-ALL_AXES : goal.returns-then-words-o-gt-ALL_AXES
returns-then-words-o-gt-ALL_AXES c =
    let e : ltb all_axes (word words_width c.args.words.now c.args.j (masks_place + c.loop-c.c)) ≡ true = rw (← add_assoc (c.args.j * words_width) masks_place c.loop-c.c) (lt-ltb _ _ c.if-words-o-gt-ALL_AXES.true) in
    sym (all-stop _ _ _ _ c.loop-c-test.true (ap not e)) ∙ c.loop-c.invariant.1

pub loop-c-preserved : goal.loop-c-preserved
loop-c-preserved c =
    let e : ltb all_axes (word words_width c.args.words.now c.args.j (masks_place + c.loop-c.c)) ≡ false = rw (← add_assoc (c.args.j * words_width) masks_place c.loop-c.c) (le-ltb _ _ c.if-words-o-gt-ALL_AXES.false) in
    (search rules, all-turn-from _ _ _ _ c.loop-c-test.true (ap not e) ∙ c.loop-c.invariant.1)

pub returns : goal.returns
returns c = sym (all_done _ _ _ _ c.loop-c-test.false) ∙ c.loop-c.invariant.1
