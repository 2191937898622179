-- Places in the text: where a word starts and ends, and what the line of a call names, is in the text or at its end.
use Prim.Native.Nat.{ℕ, zero, suc, ◌≤◌, ◌<◌}
use mathlib.Core.Path.{◌≡◌, refl, sym}
use mathlib.Core.Bool.{Bool, true, false, cond, not}
use mathlib.Core.List.{List, [], ◌∷◌}
use native.Mathlib.Omega.{arith}
use borrow.Author.Tests.{ne_eqb, eqb-true}
use lib.Dec.{eqb}
use lib.Ieee.{Float}
use lib.ListN.{length, drop, get_or, length-drop}
use Rattle.std.specs.Prelude.{Result, Ok, Err}
use Rattle.decimals.specs.declared.number.NumberFault.{NumberFault}
use Rattle.decimals.specs.declared.number.NumberFault.TheVariants.{TooManyDigits, NotANumber}
use Rattle.texts.specs.Ascii.{ascii, LF}
use Rattle.study_reader.specs.Words.{is_blank, ends_word, run_of, line_count, after_blanks, next_word, is_empty, QUOTE, is_quote, next_line, is_word}
use Rattle.study_reader.specs.Numbers.{number_in}
use Rattle.study_reader.specs.Faults.{offset_of, fault_file_name, fault_nested, fault_no_repeat}
use Rattle.study_reader.specs.Keywords.{read_rows_keyword, read_velocity_keyword, set_targets_keyword, repeat_keyword, end_keyword, table_keyword, masks_keyword, frame_keyword, settle_keyword, place_keyword, build_keyword, sweep_keyword}
use Rattle.study_reader.specs.Calls.{bare_call, wrong, with_place, with_pose, with_warm, with_sweeps, first, of_number, of_whole, of_named, read_substep, rotation_of, pose_of, place_of, substep_of, build_of, read_substeps, substeps_of, after_rounds, read_sweeps, sweeps_of, frame_of, csv_of, read_most, most_of, settle_of, quoted_of, file_of, read_repeat, read_end, mask_named, bits_of, of_bits, bits_word, mask_or_bits, mask_word, mask_step, mask_steps, other_arguments, arguments, read_call}
use Rattle.study_reader.specs.declared.words.Word.{Word}
use Rattle.std.specs.Prelude.{Option, Some, None, is_some}
use Rattle.study_reader.specs.declared.faults.Fault.{Fault}
use Rattle.study_reader.specs.declared.calls.Line.{Line}

pub by_cases : {P : Type 0} (t : Bool) → (t ≡ true → P) → (t ≡ false → P) → P
by_cases true f g = f refl
by_cases false f g = g refl

-- ---- words

run_short : (test : ℕ → Bool) (l : List ℕ) → run_of test l ≤ length l
unfolding run_of
run_short test [] = omega arith
run_short test (b ∷ bs) = let h = run_short test bs in by_cases (test b) (λ e. rw e (omega arith)) (λ e. rw e (omega arith))

line-short : (l : List ℕ) → line_count l ≤ length l
unfolding line_count
line-short [] = omega arith
line-short (b ∷ bs) = let h = line-short bs in by_cases (eqb b LF) (λ e. rw e (omega arith)) (λ e. rw e (omega arith))

line-some : (l : List ℕ) → 0 < length l → 0 < line_count l
unfolding line_count
line-some [] h = h
line-some (b ∷ bs) h = by_cases (eqb b LF) (λ e. rw e (omega arith)) (λ e. rw e (omega arith))

get_or-inside : (l : List ℕ) (n b : ℕ) → (b ≡ 0 → ⊥) → get_or l n 0 ≡ b → n < length l
get_or-inside [] n b h e = absurd (h (sym e))
get_or-inside (x ∷ l) zero b h e = omega arith
get_or-inside (x ∷ l) (suc n) b h e = omega (arith, get_or-inside l n b h e)

module _ (text : List ℕ) (at : ℕ) where
  pub start-inside : at ≤ length text → (next_word text at).start ≤ length text
  unfolding next_word
  start-inside h = omega (arith, run_short is_blank (drop at text), length-drop at text)

  pub end-inside : at ≤ length text → (next_word text at).end ≤ length text
  unfolding next_word
  end-inside h =
      let from = after_blanks text at in
      omega (arith, run_short is_blank (drop at text), length-drop at text, run_short (λ b. not (ends_word b)) (drop from text), length-drop from text)

  -- past the end of the text no quote stands
  pub quote-inside : is_quote text at ≡ true → at < length text
  unfolding is_quote
  quote-inside e = get_or-inside text at QUOTE (λ z. omega (arith, z)) (eqb-true _ _ e)

  pub no-quote : length text ≤ at → false ≡ is_quote text at
  unfolding is_quote
  no-quote h = sym (ne_eqb _ _ (λ e. omega (arith, get_or-inside text at QUOTE (λ z. omega (arith, z)) e)))

  pub next-line-inside : at ≤ length text → next_line text at ≤ length text
  unfolding next_line
  next-line-inside h = omega (arith, line-short (drop at text), length-drop at text)

  pub next-line-far : at < length text → at < next_line text at
  unfolding next_line
  next-line-far h =
      let some : 0 < length (drop at text) = rw (length-drop at text) (omega arith) in
      omega (arith, line-some (drop at text) some)

-- ---- the line of a call

pub record Within (text : List ℕ) (l : Line) : Type 0 where
  pub at : l.at ≤ length text
  pub fault : offset_of l.fault ≤ length text

module _ (text : List ℕ) where
  within-cond : (t : Bool) (a b : Line) → Within text a → Within text b → Within text (cond t a b)
  within-cond true a b p q = p
  within-cond false a b p q = q

  within-number : (l : Line) (w : Word) (r : Result Float NumberFault) (next : Float → Line) → w.start ≤ length text → Within text l → ((x : Float) → Within text (next x)) → Within text (of_number l w r next)
  unfolding of_number
  within-number l w (Ok x) next s h n = n x
  within-number l w (Err TooManyDigits) next s h n = record { at = h.at; fault = s }
  within-number l w (Err NotANumber) next s h n = record { at = h.at; fault = s }

  within-whole : (l : Line) (w : Word) (v : Option ℕ) → w.start ≤ length text → w.end ≤ length text → Within text l → Within text (of_whole l w v)
  unfolding of_whole
  within-whole l w (Some n) s e h = record { at = e; fault = h.fault }
  within-whole l w None s e h = record { at = h.at; fault = s }

  within-named : (l : Line) (w : Word) (fault : Fault) (o : Option ℕ) → w.start ≤ length text → w.end ≤ length text → Within text l → Within text (of_named l w fault o)
  unfolding of_named
  within-named l w fault (Some i) s e h = record { at = e; fault = h.fault }
  within-named l w fault None s e h = record { at = h.at; fault = s }

  within-rotation : (l : Line) (v w : Word) → v.start ≤ length text → v.end ≤ length text → w.start ≤ length text → w.end ≤ length text → Within text l → Within text (rotation_of text l v w)
  unfolding rotation_of
  within-rotation l v w s e s2 e2 h =
      within-number l v (number_in text v) _ s h (λ a.
      within-cond (is_empty w) _ _ (record { at = e; fault = h.fault })
      (within-number l w (number_in text w) _ s2 h (λ b. record { at = e2; fault = h.fault })))

  within-pose : (l : Line) (v w : Word) → v.start ≤ length text → w.start ≤ length text → w.end ≤ length text → Within text l → Within text (pose_of text l v w)
  unfolding pose_of
  within-pose l v w s s2 e2 h =
      within-number l v (number_in text v) _ s h (λ x.
      within-number l w (number_in text w) _ s2 h (λ y.
      let p = start-inside text w.end e2 in
      let q = end-inside text w.end e2 in
      within-rotation (with_pose l x y w.end) _ _ p q (start-inside text _ q) (end-inside text _ q) (record { at = e2; fault = h.fault })))

  within-place : (r : Line) → Within text r → Within text (place_of text r)
  unfolding place_of
  within-place r h =
      let q = end-inside text r.at h.at in
      within-cond (is_some r.fault) _ _ h (within-pose r _ _ (start-inside text r.at h.at) (start-inside text _ q) (end-inside text _ q) h)

  within-substep : (l : Line) → Within text l → Within text (read_substep text l)
  unfolding substep_of
  within-substep l h =
      let s = start-inside text l.at h.at in
      let e = end-inside text l.at h.at in
      within-cond (is_empty (first text l)) _ _ h
      (within-cond (is_word text (first text l) (ascii "substep")) _ _
      (within-whole (with_place l (first text l).end) _ _ (start-inside text _ e) (end-inside text _ e) (record { at = e; fault = h.fault }))
      (record { at = h.at; fault = s }))

  within-build : (l : Line) (v w : Word) → w.start ≤ length text → w.end ≤ length text → Within text l → Within text (build_of text l v w)
  unfolding build_of
  within-build l v w s e h =
      within-cond (is_word text v (ascii "warm")) _ _
      (within-number l w (number_in text w) _ s h (λ c. within-substep (with_warm l c w.end) (record { at = e; fault = h.fault }))) (within-substep l h)

  within-substeps : (l : Line) → Within text l → Within text (read_substeps text l)
  unfolding substeps_of
  within-substeps l h =
      let s = start-inside text l.at h.at in
      let e = end-inside text l.at h.at in
      within-cond (is_word text (first text l) (ascii "substeps")) _ _
      (within-whole (with_place l (first text l).end) _ _ (start-inside text _ e) (end-inside text _ e) (record { at = e; fault = h.fault }))
      (record { at = h.at; fault = s })

  within-rounds : (r : Line) → Within text r → Within text (after_rounds text r)
  unfolding after_rounds
  within-rounds r h = within-cond (is_some r.fault) _ _ h (within-substeps (with_sweeps r) (record { at = h.at; fault = h.fault }))

  within-sweeps : (l : Line) → Within text l → Within text (read_sweeps text l)
  unfolding sweeps_of
  within-sweeps l h =
      let s = start-inside text l.at h.at in
      let e = end-inside text l.at h.at in
      within-cond (is_word text (first text l) (ascii "sweeps")) _ _
      (within-rounds _ (within-whole (with_place l (first text l).end) _ _ (start-inside text _ e) (end-inside text _ e) (record { at = e; fault = h.fault })))
      (record { at = h.at; fault = s })

  within-frame : (l : Line) (v w : Word) → w.start ≤ length text → w.end ≤ length text → Within text l → Within text (frame_of text l v w)
  unfolding frame_of
  within-frame l v w s e h =
      within-cond (is_word text v (ascii "warm")) _ _
      (within-number l w (number_in text w) _ s h (λ x. within-sweeps (with_warm l x w.end) (record { at = e; fault = h.fault }))) (within-sweeps l h)

  within-csv : (l : Line) (w : Word) → w.start ≤ length text → w.end ≤ length text → Within text l → Within text (csv_of text l w)
  unfolding csv_of
  within-csv l w s e h =
      within-cond (is_empty w) _ _ h
      (within-cond (is_word text w (ascii "csv")) _ _ (record { at = e; fault = h.fault }) (record { at = h.at; fault = s }))

  within-most : (l : Line) → Within text l → Within text (read_most text l)
  unfolding most_of
  within-most l h =
      within-cond (is_empty (first text l)) _ _ (record { at = h.at; fault = h.fault })
      (within-whole l _ _ (start-inside text l.at h.at) (end-inside text l.at h.at) h)

  within-settle : (l : Line) (v : Word) → v.start ≤ length text → v.end ≤ length text → Within text l → Within text (settle_of text l v)
  unfolding settle_of
  within-settle l v s e h = within-number l v (number_in text v) _ s h (λ x. within-most (with_pose l x l.y v.end) (record { at = e; fault = h.fault }))

  within-quoted : (l : Line) (place : ℕ) (w : Word) → place ≤ length text → Within text l → Within text (quoted_of text l place w)
  unfolding quoted_of
  within-quoted l place w s h =
      let no : Within text (wrong l fault_file_name place) = record { at = h.at; fault = s } in
      within-cond (is_empty w) _ _ no
      (by_cases (is_quote text w.end) (λ e. rw e (record { at = omega (arith, quote-inside text w.end e); fault = h.fault })) (λ e. rw e no))

  within-file : (l : Line) (w : Word) → w.start ≤ length text → w.end ≤ length text → Within text l → Within text (file_of text l w)
  unfolding file_of
  within-file l w s e h =
      within-cond (is_empty w) _ _ (record { at = h.at; fault = s })
      (within-cond (is_quote text w.start) _ _ (within-quoted l w.start _ s h) (record { at = e; fault = h.fault }))

  within-bits : (l : Line) (w : Word) (i : ℕ) (b : Option ℕ) → w.start ≤ length text → w.end ≤ length text → Within text l → Within text (of_bits l w i b)
  unfolding of_bits
  within-bits l w i (Some b) s e h = record { at = e; fault = h.fault }
  within-bits l w i None s e h = record { at = h.at; fault = s }

  within-bits-word : (l : Line) (w : Word) (o : Option ℕ) → w.start ≤ length text → w.end ≤ length text → Within text l → Within text (bits_word text l w o)
  unfolding bits_word
  within-bits-word l w (Some i) s e h = within-bits l w i (bits_of text w) s e h
  within-bits-word l w None s e h = record { at = h.at; fault = s }

  within-mask-or-bits : (l : Line) (w : Word) (o : Option ℕ) → w.start ≤ length text → w.end ≤ length text → Within text l → Within text (mask_or_bits text l w o)
  unfolding mask_or_bits
  within-mask-or-bits l w (Some i) s e h = record { at = e; fault = h.fault }
  within-mask-or-bits l w None s e h = within-bits-word l w l.mask s e h

  within-mask-word : (l : Line) (w : Word) → w.start ≤ length text → w.end ≤ length text → Within text l → Within text (mask_word text l w)
  unfolding mask_word
  within-mask-word l w s e h = within-mask-or-bits l w (mask_named text w) s e h

  within-mask-step : (l : Line) → Within text l → Within text (mask_step text l)
  unfolding mask_step
  within-mask-step l h =
      within-cond (is_some l.fault) _ _ h
      (within-cond (is_empty (first text l)) _ _ h (within-mask-word l _ (start-inside text l.at h.at) (end-inside text l.at h.at) h))

  within-mask-steps : (n : ℕ) (l : Line) → Within text l → Within text (mask_steps text n l)
  unfolding mask_steps
  within-mask-steps zero l h = h
  within-mask-steps (suc n) l h = within-mask-steps n (mask_step text l) (within-mask-step l h)

  module _ (l : Line) (h : Within text l) where
    s1 : (first text l).start ≤ length text
    s1 = start-inside text l.at h.at

    e1 : (first text l).end ≤ length text
    e1 = end-inside text l.at h.at

    wrong-within : (fault : Fault) (place : ℕ) → place ≤ length text → Within text (wrong l fault place)
    wrong-within fault place p = record { at = h.at; fault = p }

    within-other : (names : List ℕ) (bodies joints : ℕ) (repeats : Bool) (place : ℕ) → place ≤ length text → Within text (other_arguments text names bodies joints repeats l place)
    unfolding other_arguments read_repeat read_end
    within-other names bodies joints repeats place p =
        within-cond (eqb l.keyword read_rows_keyword) _ _ (within-named l _ _ _ s1 e1 h)
        (within-cond (eqb l.keyword read_velocity_keyword) _ _ (within-named l _ _ _ s1 e1 h)
        (within-cond (eqb l.keyword set_targets_keyword) _ _ (within-file l _ s1 e1 h)
        (within-cond (eqb l.keyword repeat_keyword) _ _ (within-cond repeats _ _ (wrong-within fault_nested place p) (within-whole l _ _ s1 e1 h))
        (within-cond (eqb l.keyword end_keyword) _ _ (within-cond repeats _ _ h (wrong-within fault_no_repeat place p))
        (within-cond (eqb l.keyword table_keyword) _ _ (within-csv l _ s1 e1 h)
        (within-cond (eqb l.keyword settle_keyword) _ _ (within-settle l _ s1 e1 h)
        (within-cond (eqb l.keyword masks_keyword) _ _ (within-mask-steps 16 _ (within-named l _ _ _ s1 e1 h))
        (within-cond (eqb l.keyword frame_keyword) _ _ (within-frame l _ _ (start-inside text _ e1) (end-inside text _ e1) h) h))))))))

    within-arguments : (names : List ℕ) (bodies joints : ℕ) (repeats : Bool) (place : ℕ) → place ≤ length text → Within text (arguments text names bodies joints repeats l place)
    unfolding arguments
    within-arguments names bodies joints repeats place p =
        within-cond (eqb l.keyword place_keyword) _ _ (within-place _ (within-named l _ _ _ s1 e1 h))
        (within-cond (eqb l.keyword build_keyword) _ _ (within-build l _ _ (start-inside text _ e1) (end-inside text _ e1) h)
        (within-cond (eqb l.keyword sweep_keyword) _ _ (within-whole l _ _ s1 e1 h) (within-other names bodies joints repeats place p)))

  pub call-within : (names : List ℕ) (bodies joints : ℕ) (repeats : Bool) (w : Word) → w.start ≤ length text → w.end ≤ length text → Within text (read_call text names bodies joints repeats w)
  call-within names bodies joints repeats w s e =
      within-arguments (bare_call _ w.end) (record { at = e; fault = omega arith }) names bodies joints repeats w.start s
