-- The line of a call: its keyword, and the arguments that stand after it.
use Rattle.std.specs.Prelude.{Bool, true, false, cond, Option, Some, None, is_some, List, ℕ, zero, suc, ◌+◌, ◌-◌, eqb, ltb, Float}
use Rattle.std.specs.Int.Bits.{bit_or}
use Rattle.floats.specs.Operators.{bits}
use Rattle.floats.specs.SinCos.{rotation_from_angle_of}
use Rattle.std.specs.Prelude.{Result, Ok, Err}
use Rattle.decimals.specs.declared.number.NumberFault.{NumberFault}
use Rattle.decimals.specs.declared.number.NumberFault.TheVariants.{TooManyDigits, NotANumber}
use Rattle.texts.specs.Ascii.{ascii}
use Rattle.rows.specs.declared.generic_joint.Masks.{Masks}
use Rattle.study_reader.specs.Faults.{fault_at, fault_number, fault_digits, fault_no_body, fault_no_joint, fault_whole_number, fault_no_repeat, fault_nested, fault_warm, fault_csv, fault_file_name, fault_mask, fault_substeps}
use Rattle.study_reader.specs.Words.{next_word, is_empty, is_quote, quoted_word, is_word, whole_of}
use Rattle.study_reader.specs.Numbers.{number_in}
use Rattle.study_reader.specs.Names.{find_body, find_joint}
use Rattle.study_reader.specs.Keywords.{place_keyword, build_keyword, sweep_keyword, read_rows_keyword, read_velocity_keyword, set_targets_keyword, repeat_keyword, end_keyword, table_keyword, masks_keyword, frame_keyword, settle_keyword, call_keyword, axis_of, item_keyword, lock_keyword, motor_model_keyword}
use Rattle.study_reader.specs.declared.faults.Fault.{Fault}
use Rattle.study_reader.specs.declared.words.Word.{Word}
use Rattle.study_reader.specs.declared.calls.Line.{Line}

-- ---- a line, and the line with more of it read

abbrev pub no_masks : Masks
no_masks = record { locked_axes = 0; limit_axes = 0; motor_axes = 0; coupled_axes = 0 }

-- no argument: the line is read up to the end of its keyword
abbrev pub bare_call : ℕ → ℕ → Line
bare_call keyword at =
    record { keyword = keyword; number = 0; sweeps = 0; masks = no_masks; mask = None; warm = false; csv = false; x = bits 0; y = bits 0; re = bits 0x3f800000; im = bits 0; start = at; end = at; at = at; fault = None }

-- a fault and its place
abbrev pub wrong : Line → Fault → ℕ → Line
wrong l fault place =
    record { keyword = l.keyword; number = l.number; sweeps = l.sweeps; masks = l.masks; mask = l.mask; warm = l.warm; csv = l.csv; x = l.x; y = l.y; re = l.re; im = l.im; start = l.start; end = l.end; at = l.at; fault = Some (fault_at fault place) }

-- the first argument
abbrev pub with_word : Line → Word → Line
with_word l w =
    record { keyword = l.keyword; number = l.number; sweeps = l.sweeps; masks = l.masks; mask = l.mask; warm = l.warm; csv = l.csv; x = l.x; y = l.y; re = l.re; im = l.im; start = w.start; end = w.end; at = w.end; fault = l.fault }

-- a body, a joint, a count, a substep or how many substeps
abbrev pub with_number : Line → ℕ → Line
with_number l n =
    record { keyword = l.keyword; number = n; sweeps = l.sweeps; masks = l.masks; mask = l.mask; warm = l.warm; csv = l.csv; x = l.x; y = l.y; re = l.re; im = l.im; start = l.start; end = l.end; at = l.at; fault = l.fault }

abbrev pub with_place : Line → ℕ → Line
with_place l place =
    record { keyword = l.keyword; number = l.number; sweeps = l.sweeps; masks = l.masks; mask = l.mask; warm = l.warm; csv = l.csv; x = l.x; y = l.y; re = l.re; im = l.im; start = l.start; end = l.end; at = place; fault = l.fault }

abbrev pub with_pose : Line → Float → Float → ℕ → Line
with_pose l x y place =
    record { keyword = l.keyword; number = l.number; sweeps = l.sweeps; masks = l.masks; mask = l.mask; warm = l.warm; csv = l.csv; x = x; y = y; re = l.re; im = l.im; start = l.start; end = l.end; at = place; fault = l.fault }

abbrev pub with_rotation : Line → Float → Float → ℕ → Line
with_rotation l re im place =
    record { keyword = l.keyword; number = l.number; sweeps = l.sweeps; masks = l.masks; mask = l.mask; warm = l.warm; csv = l.csv; x = l.x; y = l.y; re = re; im = im; start = l.start; end = l.end; at = place; fault = l.fault }

abbrev pub with_warm : Line → Float → ℕ → Line
with_warm l x place =
    record { keyword = l.keyword; number = l.number; sweeps = l.sweeps; masks = l.masks; mask = l.mask; warm = true; csv = l.csv; x = x; y = l.y; re = l.re; im = l.im; start = l.start; end = l.end; at = place; fault = l.fault }

abbrev pub with_csv : Line → Line
with_csv l =
    record { keyword = l.keyword; number = l.number; sweeps = l.sweeps; masks = l.masks; mask = l.mask; warm = l.warm; csv = true; x = l.x; y = l.y; re = l.re; im = l.im; start = l.start; end = l.end; at = l.at; fault = l.fault }

-- the rounds of a frame's sweeps: the number that was read last
abbrev pub with_sweeps : Line → Line
with_sweeps l =
    record { keyword = l.keyword; number = l.number; sweeps = l.number; masks = l.masks; mask = l.mask; warm = l.warm; csv = l.csv; x = l.x; y = l.y; re = l.re; im = l.im; start = l.start; end = l.end; at = l.at; fault = l.fault }

-- the axes that follow are of mask i: the locked, limited, driven and coupled axes are masks 0 to 3
abbrev pub with_mask : Line → ℕ → ℕ → Line
with_mask l i place =
    record { keyword = l.keyword; number = l.number; sweeps = l.sweeps; masks = l.masks; mask = Some i; warm = l.warm; csv = l.csv; x = l.x; y = l.y; re = l.re; im = l.im; start = l.start; end = l.end; at = place; fault = l.fault }

-- mask k with the bits b where mask i gets them
abbrev pub with_bits : ℕ → ℕ → ℕ → ℕ → ℕ
with_bits mask i k b = cond (eqb i k) (bit_or mask b) mask

abbrev pub masks_with : Masks → ℕ → ℕ → Masks
masks_with m i b = record {
  locked_axes = with_bits m.locked_axes i 0 b;
  limit_axes = with_bits m.limit_axes i 1 b;
  motor_axes = with_bits m.motor_axes i 2 b;
  coupled_axes = with_bits m.coupled_axes i 3 b;
}

-- mask i, with bits
abbrev pub with_axes : Line → ℕ → ℕ → ℕ → Line
with_axes l i b place =
    record { keyword = l.keyword; number = l.number; sweeps = l.sweeps; masks = masks_with l.masks i b; mask = l.mask; warm = l.warm; csv = l.csv; x = l.x; y = l.y; re = l.re; im = l.im; start = l.start; end = l.end; at = place; fault = l.fault }

-- ---- one argument

-- the next two words
abbrev pub first : List ℕ → Line → Word
first text l = next_word text l.at

abbrev pub second : List ℕ → Line → Word
second text l = next_word text (first text l).end

-- a number and what is read with it, or why the word is none
unfoldable pub of_number : Line → Word → Result Float NumberFault → (Float → Line) → Line
of_number l w (Ok x) next = next x
of_number l w (Err TooManyDigits) next = wrong l fault_digits w.start
of_number l w (Err NotANumber) next = wrong l fault_number w.start

unfoldable pub of_whole : Line → Word → Option ℕ → Line
of_whole l w (Some n) = with_number (with_word l w) n
of_whole l w None = wrong l fault_whole_number w.start

-- a body or a joint by its name, or the fault that there is none
unfoldable pub of_named : Line → Word → Fault → Option ℕ → Line
of_named l w fault (Some i) = with_number (with_word l w) i
of_named l w fault None = wrong l fault w.start

abbrev pub read_whole : List ℕ → Line → Line
read_whole text l = of_whole l (first text l) (whole_of text (first text l))

abbrev pub read_body : List ℕ → List ℕ → ℕ → Line → Line
read_body text names bodies l = of_named l (first text l) fault_no_body (find_body text names bodies (first text l))

abbrev pub read_joint : List ℕ → List ℕ → ℕ → Line → Line
read_joint text names joints l = of_named l (first text l) fault_no_joint (find_joint text names joints (first text l))

-- ---- the arguments of each call, from the next two words v and w

-- an angle where it is the last word, else a cosine and a sine
unfoldable pub rotation_of : List ℕ → Line → Word → Word → Line
rotation_of text l v w =
    of_number l v (number_in text v) (λ a.
    cond (is_empty w) (with_rotation l (rotation_from_angle_of a).re (rotation_from_angle_of a).im v.end)
    (of_number l w (number_in text w) (λ b. with_rotation l a b w.end)))

abbrev pub read_rotation : List ℕ → Line → Line
read_rotation text l = rotation_of text l (first text l) (second text l)

-- x, y and a rotation
unfoldable pub pose_of : List ℕ → Line → Word → Word → Line
pose_of text l v w =
    of_number l v (number_in text v) (λ x. of_number l w (number_in text w) (λ y. read_rotation text (with_pose l x y w.end)))

abbrev pub read_pose : List ℕ → Line → Line
read_pose text l = pose_of text l (first text l) (second text l)

-- `place BODY` and a pose
unfoldable pub place_of : List ℕ → Line → Line
place_of text r = cond (is_some r.fault) r (read_pose text r)

abbrev pub read_place : List ℕ → List ℕ → ℕ → Line → Line
read_place text names bodies l = place_of text (read_body text names bodies l)

-- `substep N`, or nothing
unfoldable pub substep_of : List ℕ → Line → Word → Line
substep_of text l v =
    cond (is_empty v) l (cond (is_word text v (ascii "substep")) (read_whole text (with_place l v.end)) (wrong l fault_warm v.start))

abbrev pub read_substep : List ℕ → Line → Line
read_substep text l = substep_of text l (first text l)

-- `build`, then `warm C` or nothing, then `substep N` or nothing
unfoldable pub build_of : List ℕ → Line → Word → Word → Line
build_of text l v w =
    cond (is_word text v (ascii "warm")) (of_number l w (number_in text w) (λ c. read_substep text (with_warm l c w.end))) (read_substep text l)

abbrev pub read_build : List ℕ → Line → Line
read_build text l = build_of text l (first text l) (second text l)

-- `substeps N`
unfoldable pub substeps_of : List ℕ → Line → Word → Line
substeps_of text l v = cond (is_word text v (ascii "substeps")) (read_whole text (with_place l v.end)) (wrong l fault_substeps v.start)

abbrev pub read_substeps : List ℕ → Line → Line
read_substeps text l = substeps_of text l (first text l)

-- after rounds that were read
unfoldable pub after_rounds : List ℕ → Line → Line
after_rounds text r = cond (is_some r.fault) r (read_substeps text (with_sweeps r))

-- `sweeps N`, then `substeps N`
unfoldable pub sweeps_of : List ℕ → Line → Word → Line
sweeps_of text l v = cond (is_word text v (ascii "sweeps")) (after_rounds text (read_whole text (with_place l v.end))) (wrong l fault_substeps v.start)

abbrev pub read_sweeps : List ℕ → Line → Line
read_sweeps text l = sweeps_of text l (first text l)

-- `frame`, then `warm C` or nothing, then `sweeps N` and `substeps N`
unfoldable pub frame_of : List ℕ → Line → Word → Word → Line
frame_of text l v w =
    cond (is_word text v (ascii "warm")) (of_number l w (number_in text w) (λ c. read_sweeps text (with_warm l c w.end))) (read_sweeps text l)

abbrev pub read_frame : List ℕ → Line → Line
read_frame text l = frame_of text l (first text l) (second text l)

-- `table`, then `csv` or nothing
unfoldable pub csv_of : List ℕ → Line → Word → Line
csv_of text l w = cond (is_empty w) l (cond (is_word text w (ascii "csv")) (with_csv (with_word l w)) (wrong l fault_csv w.start))

abbrev pub read_csv : List ℕ → Line → Line
read_csv text l = csv_of text l (first text l)

-- `settle TOLERANCE`, then the most rounds, or nothing
abbrev pub most_rounds : ℕ
most_rounds = 4096

unfoldable pub most_of : List ℕ → Line → Word → Line
most_of text l w = cond (is_empty w) (with_number l most_rounds) (read_whole text l)

abbrev pub read_most : List ℕ → Line → Line
read_most text l = most_of text l (first text l)

unfoldable pub settle_of : List ℕ → Line → Word → Line
settle_of text l v = of_number l v (number_in text v) (λ x. read_most text (with_pose l x l.y v.end))

abbrev pub read_settle : List ℕ → Line → Line
read_settle text l = settle_of text l (first text l)

-- a name in quotes, whose first stands at a place: at least one byte, and a quote after it
unfoldable pub quoted_of : List ℕ → Line → ℕ → Word → Line
quoted_of text l place w =
    cond (is_empty w) (wrong l fault_file_name place) (cond (is_quote text w.end) (with_place (with_word l w) (w.end + 1)) (wrong l fault_file_name place))

abbrev pub read_quoted : List ℕ → Line → ℕ → Line
read_quoted text l place = quoted_of text l place (quoted_word text (place + 1))

-- `set_targets FILE`, or the name in quotes
unfoldable pub file_of : List ℕ → Line → Word → Line
file_of text l w =
    cond (is_empty w) (wrong l fault_file_name w.start) (cond (is_quote text w.start) (read_quoted text l w.start) (with_word l w))

abbrev pub read_file : List ℕ → Line → Line
read_file text l = file_of text l (first text l)

-- the mask that a word names, in the order of document 01: `lock`, `limit`, `motor`, `couple`
unfoldable pub mask_named : List ℕ → Word → Option ℕ
mask_named text w =
    let keyword = item_keyword text w in
    cond (ltb keyword lock_keyword) None (cond (ltb keyword motor_model_keyword) (Some (keyword - lock_keyword)) None)

-- an axis's bit in a mask
abbrev pub bit_of : ℕ → ℕ
bit_of axis = cond (eqb axis 0) 1 (cond (eqb axis 1) 2 4)

-- the bits that a word gives: an axis's, or those of a whole number
unfoldable pub bits_of : List ℕ → Word → Option ℕ
bits_of text w = cond (ltb 2 (axis_of text w)) (whole_of text w) (Some (bit_of (axis_of text w)))

-- bits of mask i
unfoldable pub of_bits : Line → Word → ℕ → Option ℕ → Line
of_bits l w i (Some b) = with_axes l i b w.end
of_bits l w i None = wrong l fault_mask w.start

-- a word that gives bits of the mask named last
unfoldable pub bits_word : List ℕ → Line → Word → Option ℕ → Line
bits_word text l w (Some i) = of_bits l w i (bits_of text w)
bits_word text l w None = wrong l fault_mask w.start

-- a word that names a mask, or one that gives bits of the mask named last
unfoldable pub mask_or_bits : List ℕ → Line → Word → Option ℕ → Line
mask_or_bits text l w (Some i) = with_mask l i w.end
mask_or_bits text l w None = bits_word text l w l.mask

unfoldable pub mask_word : List ℕ → Line → Word → Line
mask_word text l w = mask_or_bits text l w (mask_named text w)

-- one word more, unless there is a fault or no word
unfoldable pub mask_step : List ℕ → Line → Line
mask_step text l = cond (is_some l.fault) l (cond (is_empty (first text l)) l (mask_word text l (first text l)))

-- at most so many words
unfoldable pub mask_steps : List ℕ → ℕ → Line → Line
mask_steps text zero l = l
mask_steps text (suc n) l = mask_steps text n (mask_step text l)

-- `masks JOINT`, then four words that name a mask, each with three axes, or fewer
abbrev pub read_masks : List ℕ → List ℕ → ℕ → Line → Line
read_masks text names joints l = mask_steps text 16 (read_joint text names joints l)

-- `repeat N` where none is open, and `end` where one is; a fault stands at the keyword
unfoldable pub read_repeat : List ℕ → Bool → Line → ℕ → Line
read_repeat text repeats l place = cond repeats (wrong l fault_nested place) (read_whole text l)

unfoldable pub read_end : Bool → Line → ℕ → Line
read_end repeats l place = cond repeats l (wrong l fault_no_repeat place)

-- ---- the call that starts with a word, among so many bodies and joints, where a `repeat` is open or not

unfoldable pub other_arguments : List ℕ → List ℕ → ℕ → ℕ → Bool → Line → ℕ → Line
other_arguments text names bodies joints repeats l place =
    cond (eqb l.keyword read_rows_keyword) (read_joint text names joints l)
    (cond (eqb l.keyword read_velocity_keyword) (read_body text names bodies l)
    (cond (eqb l.keyword set_targets_keyword) (read_file text l)
    (cond (eqb l.keyword repeat_keyword) (read_repeat text repeats l place)
    (cond (eqb l.keyword end_keyword) (read_end repeats l place)
    (cond (eqb l.keyword table_keyword) (read_csv text l)
    (cond (eqb l.keyword settle_keyword) (read_settle text l)
    (cond (eqb l.keyword masks_keyword) (read_masks text names joints l)
    (cond (eqb l.keyword frame_keyword) (read_frame text l) l))))))))

unfoldable pub arguments : List ℕ → List ℕ → ℕ → ℕ → Bool → Line → ℕ → Line
arguments text names bodies joints repeats l place =
    cond (eqb l.keyword place_keyword) (read_place text names bodies l)
    (cond (eqb l.keyword build_keyword) (read_build text l)
    (cond (eqb l.keyword sweep_keyword) (read_whole text l) (other_arguments text names bodies joints repeats l place)))

abbrev pub read_call : List ℕ → List ℕ → ℕ → ℕ → Bool → Word → Line
read_call text names bodies joints repeats w =
    arguments text names bodies joints repeats (bare_call (call_keyword text w) w.end) w.start
