-- Document 01's order of rules, and which of them a table cites.
use Prim.Native.Nat.{ℕ, ◌+◌, ◌≤◌, ◌<◌}
use mathlib.Core.Path.{◌≡◌, sym, ap, ◌∙◌}
use mathlib.Core.Bool.{Bool, true, false, cond}
use mathlib.Core.List.{[], ◌∷◌, ◌++◌, flat_map}
use native.Mathlib.Numerals.{add-one}
use lib.ListN.{get_or, drop, drop_of_length-le}
use lib.Seq.{drop-cons}
use Rattle.rows.specs.RowIds.{has_axis}
use Rattle.study_text.specs.Rules.{index_of}
use Rattle.study_text.specs.Citations.{citation, rules, cited_in}
use Rattle.study_text.specs.declared.rules.Rule.{Rule}

-- a rule that the table has a row of, and another
pub is-cited : (used : ℕ) (r : Rule) → has_axis used (index_of r) ≡ true → cited_in used r ≡ citation r
unfolding cited_in
is-cited used r h = ap (λ (b : Bool). cond b (citation r) []) h

pub not-cited : (used : ℕ) (r : Rule) → has_axis used (index_of r) ≡ false → cited_in used r ≡ []
unfolding cited_in
not-cited used r h = ap (λ (b : Bool). cond b (citation r) []) h

-- what is left to cite from rule i on
pub cite-next : (used i : ℕ) (d : Rule) → i < 11 → cited_in used (get_or rules i d) ++ flat_map (cited_in used) (drop (i + 1) rules) ≡ flat_map (cited_in used) (drop i rules)
unfolding flat_map
cite-next used i d h =
    sym (ap (flat_map (cited_in used)) (drop-cons rules i d h ∙ ap (λ (n : ℕ). get_or rules i d ∷ drop n rules) (sym (add-one i))))

pub cite-none : (used i : ℕ) → 11 ≤ i → [] ≡ flat_map (cited_in used) (drop i rules)
unfolding flat_map
cite-none used i h = sym (ap (flat_map (cited_in used)) (drop_of_length-le rules h))
