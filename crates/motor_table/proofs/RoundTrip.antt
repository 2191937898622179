-- Reading what was written returns the records: the text of a table reads as the table is granted, refusals included (`reads-back`),
-- and so the text that the writer leaves for words that it grants reads as its records (`written-reads-back`).
use Rattle.std.proofs.Common.{◌≡◌, ℕ, zero, suc, ◌+◌, ◌-◌, ◌*◌, ◌/◌, ◌%◌, ◌^◌, ◌<◌, ◌≤◌, Bool, true, false, cond, ◌&&◌, eqb, ltb, leb, List, [], ◌∷◌, ◌++◌, length, get_or, sym, refl, ap, ◌∙◌, append_assoc, append-nil, mod-lt, arith, ltb-false, ltb-true, lt-ltb, ne_eqb, le-leb}
use mathlib.Core.Option.{Option, none, some}
use Rattle.texts.specs.Ascii.{COMMA, CR, LF, DQUOTE, MINUS}
use Rattle.texts.specs.Digits.{is_digit, digit, decimal_onto, decimal}
use Rattle.texts.proofs.DigitsLaws.{tenth}
use Rattle.motor_table.specs.Rfc4180.{is_textdata, move_at, Parsed, with_byte, with_field, record_from, first_record}
use Rattle.motor_table.specs.Rfc4180.Parsed.{fields, broken}
use Rattle.motor_table.specs.WholeNumber.{largest_size, is_sign, digits_after, sized, unsigned, whole_number}
use Rattle.motor_table.specs.Records.{entry_of, three_numbers, is_present}
use Rattle.motor_table.specs.Tables.{Table, most_records, after, checked, unless_empty, read_from, read_table}
use Rattle.motor_table.specs.Tables.Table.{refused}
use Rattle.motor_table.specs.declared.refusal.TableRefusal.TheVariants.{Broken, NotThreeNumbers, Absent}
use Rattle.motor_table.specs.Text.{number_text, record_text, text_of, word_number, entry_at, entries_from, records_in, entries_of, is_sized, granting, table_of}
use Rattle.motor_table.proofs.Textdata.{after-comma}
use Rattle.motor_table.proofs.NumberLaws.{is_digit_lem, digit-no-sign}
use Rattle.motor_table.proofs.TextLaws.{record-length}
use Rattle.motor_table.proofs.TableLaws.{no_bytes}
use Rattle.motor_table.specs.declared.rfc4180.Place.TheVariants.{FieldStart, NonEscaped}
use Rattle.motor_table.specs.declared.rfc4180.Move.{Move}
use Rattle.motor_table.specs.declared.whole_number.Number.{Number}
use Rattle.motor_table.specs.declared.record.Entry.{Entry}

-- ---- a non_escaped field is read as its bytes

unfoldable pub Bare : List ℕ → Type 0
Bare [] = Unit {0}
Bare (b ∷ t) = (is_textdata b ≡ true) × Bare t

unfoldable pub with_bytes : List ℕ → Parsed → Parsed
with_bytes [] p = p
with_bytes (b ∷ t) p = with_byte b (with_bytes t p)

pub bytes-first : (t f : List ℕ) (fs : List (List ℕ)) (rest : List ℕ) → with_bytes t (fields f fs rest) ≡ fields (t ++ f) fs rest
unfolding with_bytes with_byte
bytes-first [] f fs rest = refl
bytes-first (b ∷ t) f fs rest = ap (with_byte b) (bytes-first t f fs rest)

abbrev pub followed : ℕ → List ℕ → Move → Parsed
followed b bs m =
    elim m [
      | Move.Take q ↦ with_byte b (record_from q bs)
      | Move.Skip q ↦ record_from q bs
      | Move.NextField ↦ with_field (record_from FieldStart bs)
      | Move.End ↦ fields [] [] bs
      | Move.Fault ↦ broken
    ]

pub no-quote : (b : ℕ) → is_textdata b ≡ true → eqb b DQUOTE ≡ false
unfolding is_textdata
no-quote b h = ne_eqb b DQUOTE (λ q. let z : ◌≡◌ {A = Bool} true false = sym h ∙ ap is_textdata q in let y : ◌≡◌ {A = ℕ} 0 1 = cc in omega arith)

pub bare-move : (b : ℕ) → is_textdata b ≡ true → move_at NonEscaped b ≡ Move.Take NonEscaped
unfolding move_at
bare-move b h = simp h

pub start_move : (b : ℕ) → is_textdata b ≡ true → move_at FieldStart b ≡ Move.Take NonEscaped
unfolding move_at
start_move b h = simp (no-quote b h, h)

bare-run : (t : List ℕ) → Bare t → (more : List ℕ) → record_from NonEscaped (t ++ more) ≡ with_bytes t (record_from NonEscaped more)
unfolding Bare with_bytes record_from
bare-run [] h more = refl
bare-run (b ∷ t) h more = ap (followed b (t ++ more)) (bare-move b h.0) ∙ ap (with_byte b) (bare-run t h.1 more)

bare-field : (t : List ℕ) → 0 < length t → Bare t → (more : List ℕ) → record_from FieldStart (t ++ more) ≡ with_bytes t (record_from NonEscaped more)
unfolding Bare with_bytes record_from
bare-field [] l h more = absurd (let z : ⊥ = omega arith in z)
bare-field (b ∷ t) l h more = ap (followed b (t ++ more)) (start_move b h.0) ∙ ap (with_byte b) (bare-run t h.1 more)

at-comma : (more : List ℕ) → record_from NonEscaped (COMMA ∷ more) ≡ with_field (record_from FieldStart more)
unfolding record_from move_at is_textdata
at-comma more = refl

at-crlf : (more : List ℕ) → record_from NonEscaped (CR ∷ LF ∷ more) ≡ fields [] [] more
unfolding record_from move_at is_textdata
at-crlf more = refl

three-fields : (a b c more : List ℕ) → 0 < length a → 0 < length b → 0 < length c → Bare a → Bare b → Bare c
    → record_from FieldStart (a ++ COMMA ∷ (b ++ COMMA ∷ (c ++ CR ∷ LF ∷ more))) ≡ fields a (b ∷ c ∷ []) more
unfolding with_field
three-fields a b c more la lb lc ha hb hc =
    let third : record_from FieldStart (c ++ CR ∷ LF ∷ more) ≡ fields c [] more =
    bare-field c lc hc (CR ∷ LF ∷ more)
    ∙ ap (with_bytes c) (at-crlf more)
    ∙ bytes-first c [] [] more
    ∙ ap (λ (f : List ℕ). fields f [] more) (append-nil c) in
    let second : record_from FieldStart (b ++ COMMA ∷ (c ++ CR ∷ LF ∷ more)) ≡ fields b (c ∷ []) more =
    bare-field b lb hb (COMMA ∷ (c ++ CR ∷ LF ∷ more))
    ∙ ap (with_bytes b) (at-comma (c ++ CR ∷ LF ∷ more) ∙ ap with_field third)
    ∙ bytes-first b [] (c ∷ []) more
    ∙ ap (λ (f : List ℕ). fields f (c ∷ []) more) (append-nil b) in
    bare-field a la ha (COMMA ∷ (b ++ COMMA ∷ (c ++ CR ∷ LF ∷ more)))
    ∙ ap (with_bytes a) (at-comma (b ++ COMMA ∷ (c ++ CR ∷ LF ∷ more)) ∙ ap with_field second)
    ∙ bytes-first a [] (b ∷ c ∷ []) more
    ∙ ap (λ (f : List ℕ). fields f (b ∷ c ∷ []) more) (append-nil a)

-- ---- digits are read as their number

digit-text : (d : ℕ) → d < 10 → is_textdata (digit d) ≡ true
digit-text d h = sym (after-comma (digit d) (omega arith)) ∙ le-leb (digit d) 0x7e (omega arith)

digit-digit : (d : ℕ) → d < 10 → is_digit (digit d) ≡ true
digit-digit d h = is_digit_lem (digit d) (omega arith) (omega arith)

picked : Bool → List ℕ → List ℕ → List ℕ
picked t a b = elim t [ true ↦ a | false ↦ b ]

onto-bare : (steps n : ℕ) (text : List ℕ) → n ≤ steps → Bare text → Bare (decimal_onto steps n text)
unfolding decimal_onto Bare
onto-bare zero n text h k = (digit-text n (omega arith), k)
onto-bare (suc s) n text h k = go (ltb n 10) refl
    (λ l. onto-bare s (n / 10) (digit (n % 10) ∷ text) (omega (arith, tenth n)) (digit-text (n % 10) (mod-lt n (omega arith)), k))
  where
    go : (t : Bool) → ltb n 10 ≡ t → (10 ≤ n → Bare (decimal_onto s (n / 10) (digit (n % 10) ∷ text)))
        → Bare (elim t [ true ↦ digit n ∷ text | false ↦ decimal_onto s (n / 10) (digit (n % 10) ∷ text) ])
    go true e ih = (digit-text n (ltb-true n 10 e), k)
    go false e ih = ih (ltb-false n 10 e)

Leading : List ℕ → Type 0
Leading [] = ⊥
Leading (b ∷ t) = is_digit b ≡ true

onto-leading : (steps n : ℕ) (text : List ℕ) → n ≤ steps → Leading (decimal_onto steps n text)
unfolding decimal_onto Leading
onto-leading zero n text h = digit-digit n (omega arith)
onto-leading (suc s) n text h = go (ltb n 10) refl (λ l. onto-leading s (n / 10) (digit (n % 10) ∷ text) (omega (arith, tenth n)))
  where
    go : (t : Bool) → ltb n 10 ≡ t → (10 ≤ n → Leading (decimal_onto s (n / 10) (digit (n % 10) ∷ text)))
        → Leading (elim t [ true ↦ digit n ∷ text | false ↦ decimal_onto s (n / 10) (digit (n % 10) ∷ text) ])
    go true e ih = digit-digit n (ltb-true n 10 e)
    go false e ih = ih (ltb-false n 10 e)

one-digit : (v d : ℕ) (text : List ℕ) → d < 10 → digits_after v (digit d ∷ text) ≡ digits_after (v * 10 + d) text
unfolding digits_after
one-digit v d text h =
    let e : v * 10 + (digit d - 0x30) ≡ v * 10 + d = omega arith in
    ap (λ (t : Bool). cond t (digits_after (v * 10 + (digit d - 0x30)) text) none) (digit-digit d h) ∙ ap (λ (n : ℕ). digits_after n text) e

digits-back : (steps n : ℕ) (text : List ℕ) → n ≤ steps → digits_after 0 (decimal_onto steps n text) ≡ digits_after n text
unfolding decimal_onto
digits-back zero n text h = one-digit 0 n text (omega arith) ∙ ap (λ (m : ℕ). digits_after m text) (let e : 0 * 10 + n ≡ n = omega arith in e)
digits-back (suc s) n text h = go (ltb n 10) refl (λ l. digits-back s (n / 10) (digit (n % 10) ∷ text) (omega (arith, tenth n)))
  where
    go : (t : Bool) → ltb n 10 ≡ t → (10 ≤ n → digits_after 0 (decimal_onto s (n / 10) (digit (n % 10) ∷ text)) ≡ digits_after (n / 10) (digit (n % 10) ∷ text))
        → digits_after 0 (elim t [ true ↦ digit n ∷ text | false ↦ decimal_onto s (n / 10) (digit (n % 10) ∷ text) ]) ≡ digits_after n text
    go true e ih =
        one-digit 0 n text (ltb-true n 10 e) ∙ ap (λ (m : ℕ). digits_after m text) (let z : 0 * 10 + n ≡ n = omega arith in z)
    go false e ih =
        ih (ltb-false n 10 e)
        ∙ one-digit (n / 10) (n % 10) text (mod-lt n (omega arith))
        ∙ ap (λ (m : ℕ). digits_after m text) (tenth n)

-- the digits of a number read as it
pub decimal-back : (n : ℕ) → digits_after 0 (decimal n) ≡ some n
unfolding decimal digits_after
decimal-back n = digits-back n n [] (omega arith)

-- ---- numbers

-- −0 is spelled nowhere
abbrev pub Plain : Number → Type 0
Plain n = n.negative ≡ true → 0 < n.size

plain-whole : (t : List ℕ) → Leading t → whole_number t ≡ sized false (digits_after 0 t)
unfolding Leading whole_number unsigned
plain-whole [] h = absurd h
plain-whole (b ∷ bs) h = ap (λ (s : Bool). cond s (unsigned (eqb b MINUS) bs) (unsigned false (b ∷ bs))) (digit-no-sign b h)

minus-whole : (t : List ℕ) → Leading t → whole_number (MINUS ∷ t) ≡ sized true (digits_after 0 t)
unfolding Leading whole_number unsigned is_sign
minus-whole [] h = absurd h
minus-whole (b ∷ bs) h = refl

number-back : (m : Bool) (n : ℕ) → (m ≡ true → 0 < n)
    → whole_number (cond m (MINUS ∷ decimal n) (decimal n)) ≡ cond (leb n largest_size) (some (record { negative = m; size = n })) none
unfolding decimal sized
number-back true n h =
    minus-whole (decimal n) (onto-leading n n [] (omega arith))
    ∙ ap (sized true) (decimal-back n)
    ∙ ap (λ (t : Bool). cond (leb n largest_size) (some (record { negative = t; size = n })) none) (lt-ltb 0 n (h refl))
number-back false n h = plain-whole (decimal n) (onto-leading n n [] (omega arith)) ∙ ap (sized false) (decimal-back n)

text-back : (n : Number) → Plain n → whole_number (number_text n) ≡ cond (leb n.size largest_size) (some n) none
unfolding number_text
text-back n h = number-back n.negative n.size h

leading-some : (t : List ℕ) → Leading t → 0 < length t
unfolding Leading
leading-some [] h = absurd h
leading-some (b ∷ t) h = omega arith

number-some : (n : Number) → 0 < length (number_text n)
unfolding number_text decimal
number-some n = go n.negative
  where
    go : (t : Bool) → 0 < length (cond t (MINUS ∷ decimal_onto n.size n.size []) (decimal_onto n.size n.size []))
    go true = omega arith
    go false = leading-some _ (onto-leading n.size n.size [] (omega arith))

number-bare : (n : Number) → Bare (number_text n)
unfolding number_text decimal Bare is_textdata
number-bare n = go n.negative
  where
    go : (t : Bool) → Bare (cond t (MINUS ∷ decimal_onto n.size n.size []) (decimal_onto n.size n.size []))
    go true = (refl, onto-bare n.size n.size [] (omega arith) tt)
    go false = onto-bare n.size n.size [] (omega arith) tt

-- ---- records and tables

pub record PlainEntry (e : Entry) : Type 0 where
  pub joint : Plain e.joint
  pub axis : Plain e.axis
  pub thousandths : Plain e.thousandths

unfoldable pub PlainTable : List Entry → Type 0
PlainTable [] = Unit {0}
PlainTable (e ∷ es) = PlainEntry e × PlainTable es

record-back : (e : Entry) (more : List ℕ)
    → first_record (record_text e ++ more) ≡ fields (number_text e.joint) (number_text e.axis ∷ number_text e.thousandths ∷ []) more
unfolding record_text
record-back e more =
    let a = number_text e.joint in
    let b = number_text e.axis in
    let c = number_text e.thousandths in
    let apart : record_text e ++ more ≡ a ++ COMMA ∷ (b ++ COMMA ∷ (c ++ CR ∷ LF ∷ more)) = simp append_assoc in
    ap first_record apart
    ∙ three-fields a b c more (number-some e.joint) (number-some e.axis) (number-some e.thousandths) (number-bare e.joint) (number-bare e.axis) (number-bare e.thousandths)

abbrev num : Bool → Number → Option Number
num t n = cond t (some n) none

tests : (joints : ℕ) (e : Entry) (later : Table) (a b c : Bool)
    → checked joints (entry_of (num a e.joint) (num b e.axis) (num c e.thousandths)) later
    ≡ cond (a && b && c) (cond (is_present joints e) (after e later) (refused Absent)) (refused NotThreeNumbers)
unfolding checked entry_of
tests joints e later true true true = refl
tests joints e later true true false = refl
tests joints e later true false true = refl
tests joints e later true false false = refl
tests joints e later false true true = refl
tests joints e later false true false = refl
tests joints e later false false true = refl
tests joints e later false false false = refl

numbers-back : (joints : ℕ) (e : Entry) (later : Table) → PlainEntry e
    → checked joints (three_numbers (number_text e.joint ∷ number_text e.axis ∷ number_text e.thousandths ∷ [])) later
    ≡ cond (is_sized e) (cond (is_present joints e) (after e later) (refused Absent)) (refused NotThreeNumbers)
unfolding three_numbers
numbers-back joints e later h =
    ap (λ (x : Option Number). checked joints (entry_of x (whole_number (number_text e.axis)) (whole_number (number_text e.thousandths))) later) (text-back e.joint h.joint)
    ∙ ap (λ (x : Option Number). checked joints (entry_of (num (leb e.joint.size largest_size) e.joint) x (whole_number (number_text e.thousandths))) later) (text-back e.axis h.axis)
    ∙ ap (λ (x : Option Number). checked joints (entry_of (num (leb e.joint.size largest_size) e.joint) (num (leb e.axis.size largest_size) e.axis) x) later) (text-back e.thousandths h.thousandths)
    ∙ tests joints e later (leb e.joint.size largest_size) (leb e.axis.size largest_size) (leb e.thousandths.size largest_size)

some_bytes : (a b : List ℕ) (t : Table) → 0 < length a → unless_empty (a ++ b) t ≡ t
unfolding unless_empty
some_bytes [] b t h = absurd (let z : ⊥ = omega arith in z)
some_bytes (x ∷ a) b t h = refl

record-some : (e : Entry) → 0 < length (record_text e)
record-some e = omega (arith, record-length e)

-- the text of any table reads as the table is granted or refused
pub reads-back : (joints left : ℕ) (es : List Entry) → PlainTable es → read_from joints left (text_of es) ≡ granting joints left es
unfolding text_of granting PlainTable read_from
reads-back joints left [] h = no_bytes joints left
reads-back joints zero (e ∷ es) h = some_bytes (record_text e) (text_of es) (refused Broken) (record-some e)
reads-back joints (suc left) (e ∷ es) h =
    some_bytes (record_text e) (text_of es) _ (record-some e)
    ∙ ap
    (λ (p : Parsed). elim p [ broken ↦ refused Broken | fields f fs rest ↦ checked joints (three_numbers (f ∷ fs)) (read_from joints left rest) ])
    (record-back e (text_of es))
    ∙ numbers-back joints e (read_from joints left (text_of es)) h.0
    ∙ ap (λ (t : Table). cond (is_sized e) (cond (is_present joints e) (after e t) (refused Absent)) (refused NotThreeNumbers)) (reads-back joints left es h.1)

-- ---- tables of words

word-plain : (w : ℕ) → w < 2 ^ 32 → Plain (word_number w)
unfolding word_number
word-plain w h = go (ltb w (2 ^ 31)) refl
  where
    go : (t : Bool) → ltb w (2 ^ 31) ≡ t → Plain (cond t (record { negative = false; size = w }) (record { negative = true; size = 2 ^ 32 - w }))
    go true e q = let z : ◌≡◌ {A = ℕ} 0 1 = cc in omega arith
    go false e q = omega arith

-- every word is below 2 ^ 32
abbrev pub Words : List ℕ → Type 0
Words ws = (k : ℕ) → get_or ws k 0 < 2 ^ 32

words-plain : (ws : List ℕ) → Words ws → (k n : ℕ) → PlainTable (entries_from ws k n)
unfolding entries_from entry_at PlainTable
words-plain ws h k zero = tt
words-plain ws h k (suc n) =
    (record { joint = word-plain _ (h (3 * k)); axis = word-plain _ (h (3 * k + 1)); thousandths = word-plain _ (h (3 * k + 2)) }, words-plain ws h (k + 1) n)

-- the text of words that are granted reads as the records that they are
pub written-reads-back : (joints : ℕ) (ws : List ℕ) → Words ws → read_table joints (text_of (entries_of ws)) ≡ table_of joints (entries_of ws)
written-reads-back joints ws h = reads-back joints most_records (entries_of ws) (words-plain ws h 0 (records_in ws))
