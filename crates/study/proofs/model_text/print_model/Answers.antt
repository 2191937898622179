-- What the array of the text holds is counted by a law, since its bytes are too many to count one by one.
use Rattle.std.proofs.Common.{◌≡◌, ℕ, List, length, sym, ◌∙◌}
use Rattle.std.proofs.Math.ListN.{replicate, length-replicate}
use Rattle.study.proofs.model_text.print_model.Goals as goal

counted : (n : ℕ) → n ≡ length {A = ℕ} (replicate n 0)
counted n = sym (length-replicate n 0)

kept : (n : ℕ) (l : List ℕ) → length l ≡ length {A = ℕ} (replicate n 0) → n ≡ length l
kept n l e = sym (e ∙ length-replicate n 0)

-- src/model_text.rt:25:23
pub slice_bounds-put_model-end : goal.slice_bounds-put_model-end
slice_bounds-put_model-end c = counted 524288

-- src/model_text.rt:33:19
pub slice_bounds-out_part-end : goal.slice_bounds-out_part-end
slice_bounds-out_part-end c = kept 524288 _ c.put_model-n.auto.text
