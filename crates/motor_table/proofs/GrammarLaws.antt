-- Every record of RFC 4180's rules is read, with its fields and what follows it.
use Rattle.std.proofs.Common.{◌≡◌, ℕ, true, List, [], ◌∷◌, ◌++◌, refl, ap, ◌∙◌, append_assoc, append-nil}
use Rattle.texts.specs.Ascii.{COMMA, CR, DQUOTE, LF}
use Rattle.motor_table.specs.Rfc4180.{is_textdata, move_at, may_end, with_byte, with_field, record_from, first_record}
use Rattle.motor_table.specs.Rfc4180.Parsed.{fields}
use Rattle.motor_table.specs.Grammar.{Unquoted, Quoted, Field, Record, Follows}
use Rattle.motor_table.proofs.RoundTrip.{with_bytes, bytes-first, followed, no-quote, bare-move, start_move}
use Rattle.motor_table.specs.declared.rfc4180.Place.TheVariants.{FieldStart, NonEscaped, Escaped, QuoteSeen}
use Rattle.motor_table.specs.declared.rfc4180.Move.{Move}

quoted-move : (b : ℕ) → is_textdata b ≡ true → move_at Escaped b ≡ Move.Take Escaped
unfolding move_at
quoted-move b h = simp (no-quote b h, h)

unquoted-run : {t : List ℕ} → Unquoted t → (rest : List ℕ) → record_from NonEscaped (t ++ rest) ≡ with_bytes t (record_from NonEscaped rest)
unfolding with_bytes record_from
unquoted-run Unquoted.nothing rest = refl
unquoted-run (Unquoted.textdata {b = b} {t = t} h u) rest =
    ap (followed b (t ++ rest)) (bare-move b h) ∙ ap (with_byte b) (unquoted-run u rest)

quoted-run : {t v : List ℕ} → Quoted t v → (rest : List ℕ) → record_from Escaped (t ++ DQUOTE ∷ rest) ≡ with_bytes v (record_from QuoteSeen rest)
unfolding with_bytes record_from move_at is_textdata
quoted-run Quoted.nothing rest = refl
quoted-run (Quoted.textdata {b = b} {t = t} h q) rest =
    ap (followed b (t ++ DQUOTE ∷ rest)) (quoted-move b h) ∙ ap (with_byte b) (quoted-run q rest)
quoted-run (Quoted.comma q) rest = ap (with_byte COMMA) (quoted-run q rest)
quoted-run (Quoted.cr q) rest = ap (with_byte CR) (quoted-run q rest)
quoted-run (Quoted.lf q) rest = ap (with_byte LF) (quoted-run q rest)
quoted-run (Quoted.two_dquote q) rest = ap (with_byte DQUOTE) (quoted-run q rest)

-- a field ends before these bytes, whichever field it is
pub record Stop (rest : List ℕ) : Type 0 where
  pub empty : record_from FieldStart rest ≡ record_from NonEscaped rest
  pub closed : record_from QuoteSeen rest ≡ record_from NonEscaped rest

at-end : Stop []
unfolding record_from may_end
at-end = record { empty = refl; closed = refl }

at-comma : (rest : List ℕ) → Stop (COMMA ∷ rest)
unfolding record_from move_at is_textdata
at-comma rest = record { empty = refl; closed = refl }

at-cr : (rest : List ℕ) → Stop (CR ∷ rest)
unfolding record_from move_at is_textdata
at-cr rest = record { empty = refl; closed = refl }

unquoted-field : {t : List ℕ} → Unquoted t → (rest : List ℕ) → Stop rest → record_from FieldStart (t ++ rest) ≡ with_bytes t (record_from NonEscaped rest)
unfolding with_bytes record_from
unquoted-field Unquoted.nothing rest s = s.empty
unquoted-field (Unquoted.textdata {b = b} {t = t} h u) rest s =
    ap (followed b (t ++ rest)) (start_move b h) ∙ ap (with_byte b) (unquoted-run u rest)

quoted-field : (t v : List ℕ) → Quoted t v → (rest : List ℕ) → Stop rest
    → record_from FieldStart (DQUOTE ∷ ((t ++ DQUOTE ∷ []) ++ rest)) ≡ with_bytes v (record_from NonEscaped rest)
unfolding record_from move_at
quoted-field t v q rest s =
    ap (record_from Escaped) (append_assoc t (DQUOTE ∷ []) rest) ∙ quoted-run q rest ∙ ap (with_bytes v) s.closed

field-read : {t v : List ℕ} → Field t v → (rest : List ℕ) → Stop rest → record_from FieldStart (t ++ rest) ≡ with_bytes v (record_from NonEscaped rest)
field-read (Field.escaped {t = t} {v = v} q) rest s = quoted-field t v q rest s
field-read (Field.non_escaped u) rest s = unquoted-field u rest s

then-follows : {rest after : List ℕ} → Follows rest after → Stop rest × (record_from NonEscaped rest ≡ fields [] [] after)
unfolding record_from move_at may_end is_textdata
then-follows Follows.end = (at-end, refl)
then-follows (Follows.crlf {rest = rest}) = (at-cr (LF ∷ rest), refl)

then-comma : (rest : List ℕ) → record_from NonEscaped (COMMA ∷ rest) ≡ with_field (record_from FieldStart rest)
unfolding record_from move_at is_textdata
then-comma rest = refl

first-only : (v : List ℕ) (fs : List (List ℕ)) (after : List ℕ) → with_bytes v (fields [] fs after) ≡ fields v fs after
first-only v fs after = bytes-first v [] fs after ∙ ap (λ (f : List ℕ). fields f fs after) (append-nil v)

pub record-read : {t v : List ℕ} {ws : List (List ℕ)} {rest after : List ℕ} → Record t v ws → Follows rest after → first_record (t ++ rest) ≡ fields v ws after
unfolding with_field
record-read {rest = rest} {after = after} (Record.one {v = v} f) k =
    field-read f rest (then-follows k).0 ∙ ap (with_bytes v) (then-follows k).1 ∙ first-only v [] after
record-read {rest = rest} {after = after} (Record.more {t = t} {v = v} {u = u} {w = w} {ws = ws} f r) k =
    ap first_record (append_assoc t (COMMA ∷ u) rest)
    ∙ field-read f (COMMA ∷ (u ++ rest)) (at-comma (u ++ rest))
    ∙ ap (with_bytes v) (then-comma (u ++ rest) ∙ ap with_field (record-read r k))
    ∙ first-only v (w ∷ ws) after
