-- Nothing else is read: what `first_record` reads is a record by RFC 4180's rules, followed by CRLF or the end.
use Rattle.std.proofs.Common.{◌≡◌, ℕ, Bool, true, false, cond, ◌||◌, eqb, List, [], ◌∷◌, ◌++◌, sym, refl, ap, ◌∙◌, subst, append_assoc, arith, eqb-true}
use Rattle.texts.specs.Ascii.{COMMA, CR, DQUOTE, LF}
use Rattle.motor_table.specs.Rfc4180.{is_textdata, separator_move, move_at, may_end, Parsed, with_byte, with_field, record_from, first_record}
use Rattle.motor_table.specs.Rfc4180.Parsed.{fields, broken}
use Rattle.motor_table.specs.Grammar.{Unquoted, Quoted, Field, Record, Follows}
use Rattle.motor_table.proofs.RoundTrip.{followed}
use Rattle.motor_table.specs.declared.rfc4180.Place.{Place}
use Rattle.motor_table.specs.declared.rfc4180.Place.TheVariants.{FieldStart, NonEscaped, Escaped, QuoteSeen, CrSeen}
use Rattle.motor_table.specs.declared.rfc4180.Move.{Move}

-- bytes that begin with a record: its fields, and what comes after it and its CRLF
pub record Begins (bs v : List ℕ) (ws : List (List ℕ)) (after : List ℕ) : Type 0 where
  pub text : List ℕ
  pub rest : List ℕ
  pub split : bs ≡ text ++ rest
  pub is-record : Record text v ws
  pub follows : Follows rest after

-- after a field: the record's end, or a comma and the further fields
data Tail : List ℕ → List (List ℕ) → List ℕ → Type 0 where
  last : {bs after : List ℕ} → Follows bs after → Tail bs [] after
  next : {bs w : List ℕ} {ws : List (List ℕ)} {after : List ℕ} → Begins bs w ws after → Tail (COMMA ∷ bs) (w ∷ ws) after

-- what is left of a record from a place on
data Left : Place → List ℕ → List ℕ → List (List ℕ) → List ℕ → Type 0 where
  start : {t v r : List ℕ} {ws : List (List ℕ)} {after : List ℕ} → Field t v → Tail r ws after → Left FieldStart (t ++ r) v ws after
  bare : {t r : List ℕ} {ws : List (List ℕ)} {after : List ℕ} → Unquoted t → Tail r ws after → Left NonEscaped (t ++ r) t ws after
  quoted : {t v r : List ℕ} {ws : List (List ℕ)} {after : List ℕ} → Quoted t v → Tail r ws after → Left Escaped (t ++ DQUOTE ∷ r) v ws after
  closed : {r : List ℕ} {ws : List (List ℕ)} {after : List ℕ} → Tail r ws after → Left QuoteSeen r [] ws after
  double : {t v r : List ℕ} {ws : List (List ℕ)} {after : List ℕ} → Quoted t v → Tail r ws after
      → Left QuoteSeen (DQUOTE ∷ (t ++ DQUOTE ∷ r)) (DQUOTE ∷ v) ws after
  cr : {after : List ℕ} → Left CrSeen (LF ∷ after) [] [] after

Sound : Place → List ℕ → Parsed → Type 0
Sound p bs (fields f fs after) = Left p bs f fs after
Sound p bs broken = Unit {0}

-- what a byte right after a field leads to
Apart : List ℕ → Parsed → Type 0
Apart bs (fields f fs after) = (f ≡ []) × Tail bs fs after
Apart bs broken = Unit {0}

begin-with : {t v r : List ℕ} {ws : List (List ℕ)} {after : List ℕ} → Field t v → Tail r ws after → Begins (t ++ r) v ws after
begin-with {t = t} {r = r} f (last k) = record { text = t; rest = r; split = refl; is-record = Record.one f; follows = k }
begin-with {t = t} f (next g) =
    record {
      text = t ++ COMMA ∷ g.text;
      rest = g.rest;
      split = ap (λ (l : List ℕ). t ++ COMMA ∷ l) g.split ∙ sym (append_assoc t (COMMA ∷ g.text) g.rest);
      is-record = Record.more f g.is-record;
      follows = g.follows;
    }

begins : {bs v : List ℕ} {ws : List (List ℕ)} {after : List ℕ} → Left FieldStart bs v ws after → Begins bs v ws after
begins (start f t) = begin-with f t

comma-apart : (bs : List ℕ) (p : Parsed) → Sound FieldStart bs p → Apart (COMMA ∷ bs) (with_field p)
unfolding Sound Apart with_field
comma-apart bs (fields f fs after) h = (refl, next (begins h))
comma-apart bs broken h = tt

cr-tail : {bs f : List ℕ} {fs : List (List ℕ)} {after : List ℕ} → Left CrSeen bs f fs after → (f ≡ []) × Tail (CR ∷ bs) fs after
cr-tail cr = (refl, last Follows.crlf)

cr-apart : (bs : List ℕ) (p : Parsed) → Sound CrSeen bs p → Apart (CR ∷ bs) p
unfolding Sound Apart
cr-apart bs (fields f fs after) h = cr-tail h
cr-apart bs broken h = tt

quoted-byte : (b : ℕ) (t v : List ℕ) (x c r l : Bool) → is_textdata b ≡ x → eqb b COMMA ≡ c → eqb b CR ≡ r → eqb b LF ≡ l
    → (x || c || r || l) ≡ true → Quoted t v → Quoted (b ∷ t) (b ∷ v)
quoted-byte b t v true c r l hx hc hr hl h q = Quoted.textdata hx q
quoted-byte b t v false true r l hx hc hr hl h q = subst (λ (y : ℕ). Quoted (y ∷ t) (y ∷ v)) (sym (eqb-true b COMMA hc)) (Quoted.comma q)
quoted-byte b t v false false true l hx hc hr hl h q = subst (λ (y : ℕ). Quoted (y ∷ t) (y ∷ v)) (sym (eqb-true b CR hr)) (Quoted.cr q)
quoted-byte b t v false false false true hx hc hr hl h q = subst (λ (y : ℕ). Quoted (y ∷ t) (y ∷ v)) (sym (eqb-true b LF hl)) (Quoted.lf q)
quoted-byte b t v false false false false hx hc hr hl h q = absurd (let z : ◌≡◌ {A = ℕ} 0 1 = cc in omega arith)

-- ---- one byte more, by the move that it makes

bare-more : {bs f : List ℕ} {fs : List (List ℕ)} {after : List ℕ} (b : ℕ) → is_textdata b ≡ true → Left NonEscaped bs f fs after
    → Left NonEscaped (b ∷ bs) (b ∷ f) fs after
bare-more b h (bare u t) = bare (Unquoted.textdata h u) t

start-more : {bs f : List ℕ} {fs : List (List ℕ)} {after : List ℕ} (b : ℕ) → is_textdata b ≡ true → Left NonEscaped bs f fs after
    → Left FieldStart (b ∷ bs) (b ∷ f) fs after
start-more b h (bare u t) = start (Field.non_escaped (Unquoted.textdata h u)) t

escaped-more : {bs f : List ℕ} {fs : List (List ℕ)} {after : List ℕ} (b : ℕ) → (is_textdata b || eqb b COMMA || eqb b CR || eqb b LF) ≡ true
    → Left Escaped bs f fs after → Left Escaped (b ∷ bs) (b ∷ f) fs after
escaped-more b h (quoted {t = t} {v = v} q k) =
    quoted (quoted-byte b t v (is_textdata b) (eqb b COMMA) (eqb b CR) (eqb b LF) refl refl refl refl h q) k

module _ (b : ℕ) (bs : List ℕ) where
  bare-byte : is_textdata b ≡ true → (p : Parsed) → Sound NonEscaped bs p → Sound NonEscaped (b ∷ bs) (with_byte b p)
  unfolding Sound with_byte
  bare-byte h (fields f fs after) s = bare-more b h s
  bare-byte h broken s = tt

  start-byte : is_textdata b ≡ true → (p : Parsed) → Sound NonEscaped bs p → Sound FieldStart (b ∷ bs) (with_byte b p)
  unfolding Sound with_byte
  start-byte h (fields f fs after) s = start-more b h s
  start-byte h broken s = tt

  escaped-byte : (is_textdata b || eqb b COMMA || eqb b CR || eqb b LF) ≡ true → (p : Parsed) → Sound Escaped bs p → Sound Escaped (b ∷ bs) (with_byte b p)
  unfolding Sound with_byte
  escaped-byte h (fields f fs after) s = escaped-more b h s
  escaped-byte h broken s = tt

  bare_apart : (p : Parsed) → Apart (b ∷ bs) p → Sound NonEscaped (b ∷ bs) p
  unfolding Sound Apart
  bare_apart (fields f fs after) h = subst (λ (g : List ℕ). Left NonEscaped (b ∷ bs) g fs after) (sym h.0) (bare Unquoted.nothing h.1)
  bare_apart broken h = tt

  start-apart : (p : Parsed) → Apart (b ∷ bs) p → Sound FieldStart (b ∷ bs) p
  unfolding Sound Apart
  start-apart (fields f fs after) h =
      subst (λ (g : List ℕ). Left FieldStart (b ∷ bs) g fs after) (sym h.0) (start (Field.non_escaped Unquoted.nothing) h.1)
  start-apart broken h = tt

  closed-apart : (p : Parsed) → Apart (b ∷ bs) p → Sound QuoteSeen (b ∷ bs) p
  unfolding Sound Apart
  closed-apart (fields f fs after) h = subst (λ (g : List ℕ). Left QuoteSeen (b ∷ bs) g fs after) (sym h.0) (closed h.1)
  closed-apart broken h = tt

open-quote : (bs : List ℕ) (p : Parsed) → Sound Escaped bs p → Sound FieldStart (DQUOTE ∷ bs) p
unfolding Sound
open-quote bs (fields f fs after) (quoted {t = t} {r = r} q k) =
    subst (λ (l : List ℕ). Left FieldStart (DQUOTE ∷ l) f fs after) (append_assoc t (DQUOTE ∷ []) r) (start (Field.escaped q) k)
open-quote bs broken s = tt

quote-seen : {bs f : List ℕ} {fs : List (List ℕ)} {after : List ℕ} → Left QuoteSeen bs f fs after → Left Escaped (DQUOTE ∷ bs) f fs after
quote-seen (closed k) = quoted Quoted.nothing k
quote-seen (double q k) = quoted (Quoted.two_dquote q) k

shut-quote : (bs : List ℕ) (p : Parsed) → Sound QuoteSeen bs p → Sound Escaped (DQUOTE ∷ bs) p
unfolding Sound
shut-quote bs (fields f fs after) h = quote-seen h
shut-quote bs broken s = tt

second-quote : (bs : List ℕ) (p : Parsed) → Sound Escaped bs p → Sound QuoteSeen (DQUOTE ∷ bs) (with_byte DQUOTE p)
unfolding Sound with_byte
second-quote bs (fields f fs after) (quoted q k) = double q k
second-quote bs broken s = tt

-- ---- every place

module _ (b : ℕ) (bs : List ℕ) (later : (q : Place) → Sound q bs (record_from q bs)) where
  apart : (c r : Bool) → eqb b COMMA ≡ c → eqb b CR ≡ r → Apart (b ∷ bs) (followed b bs (cond c Move.NextField (cond r (Move.Skip CrSeen) Move.Fault)))
  unfolding Apart
  apart true r hc hr =
      subst (λ (y : ℕ). Apart (y ∷ bs) (with_field (record_from FieldStart bs))) (sym (eqb-true b COMMA hc)) (comma-apart bs (record_from FieldStart bs) (later FieldStart))
  apart false true hc hr =
      subst (λ (y : ℕ). Apart (y ∷ bs) (record_from CrSeen bs)) (sym (eqb-true b CR hr)) (cr-apart bs (record_from CrSeen bs) (later CrSeen))
  apart false false hc hr = tt

  separated : Apart (b ∷ bs) (followed b bs (separator_move b))
  separated = apart (eqb b COMMA) (eqb b CR) refl refl

  at_bare : (x : Bool) → is_textdata b ≡ x → Sound NonEscaped (b ∷ bs) (followed b bs (cond x (Move.Take NonEscaped) (separator_move b)))
  at_bare true h = bare-byte b bs h (record_from NonEscaped bs) (later NonEscaped)
  at_bare false h = bare_apart b bs _ separated

  at-start : (d x : Bool) → eqb b DQUOTE ≡ d → is_textdata b ≡ x
      → Sound FieldStart (b ∷ bs) (followed b bs (cond d (Move.Skip Escaped) (cond x (Move.Take NonEscaped) (separator_move b))))
  at-start true x hd h =
      subst (λ (y : ℕ). Sound FieldStart (y ∷ bs) (record_from Escaped bs)) (sym (eqb-true b DQUOTE hd)) (open-quote bs (record_from Escaped bs) (later Escaped))
  at-start false true hd h = start-byte b bs h (record_from NonEscaped bs) (later NonEscaped)
  at-start false false hd h = start-apart b bs _ separated

  at-escaped : (d o : Bool) → eqb b DQUOTE ≡ d → (is_textdata b || eqb b COMMA || eqb b CR || eqb b LF) ≡ o
      → Sound Escaped (b ∷ bs) (followed b bs (cond d (Move.Skip QuoteSeen) (cond o (Move.Take Escaped) Move.Fault)))
  unfolding Sound
  at-escaped true o hd h =
      subst (λ (y : ℕ). Sound Escaped (y ∷ bs) (record_from QuoteSeen bs)) (sym (eqb-true b DQUOTE hd)) (shut-quote bs (record_from QuoteSeen bs) (later QuoteSeen))
  at-escaped false true hd h = escaped-byte b bs h (record_from Escaped bs) (later Escaped)
  at-escaped false false hd h = tt

  at-quote-seen : (d : Bool) → eqb b DQUOTE ≡ d → Sound QuoteSeen (b ∷ bs) (followed b bs (cond d (Move.Take Escaped) (separator_move b)))
  at-quote-seen true hd =
      subst (λ (y : ℕ). Sound QuoteSeen (y ∷ bs) (with_byte y (record_from Escaped bs))) (sym (eqb-true b DQUOTE hd)) (second-quote bs (record_from Escaped bs) (later Escaped))
  at-quote-seen false hd = closed-apart b bs _ separated

  at-cr-seen : (l : Bool) → eqb b LF ≡ l → Sound CrSeen (b ∷ bs) (followed b bs (cond l Move.End Move.Fault))
  unfolding Sound
  at-cr-seen true h = subst (λ (y : ℕ). Left CrSeen (y ∷ bs) [] [] bs) (sym (eqb-true b LF h)) cr
  at-cr-seen false h = tt

  one_byte : (p : Place) → Sound p (b ∷ bs) (followed b bs (move_at p b))
  unfolding move_at
  one_byte FieldStart = at-start (eqb b DQUOTE) (is_textdata b) refl refl
  one_byte NonEscaped = at_bare (is_textdata b) refl
  one_byte Escaped = at-escaped (eqb b DQUOTE) (is_textdata b || eqb b COMMA || eqb b CR || eqb b LF) refl refl
  one_byte QuoteSeen = at-quote-seen (eqb b DQUOTE) refl
  one_byte CrSeen = at-cr-seen (eqb b LF) refl

no_byte : (p : Place) → Sound p [] (cond (may_end p) (fields [] [] []) broken)
unfolding Sound may_end
no_byte FieldStart = start (Field.non_escaped Unquoted.nothing) (last Follows.end)
no_byte NonEscaped = bare Unquoted.nothing (last Follows.end)
no_byte Escaped = tt
no_byte QuoteSeen = closed (last Follows.end)
no_byte CrSeen = tt

sound : (p : Place) (bs : List ℕ) → Sound p bs (record_from p bs)
unfolding record_from
sound p [] = no_byte p
sound p (b ∷ bs) = one_byte b bs (λ q. sound q bs) p

pub record-begins : (bs v : List ℕ) (ws : List (List ℕ)) (after : List ℕ) → first_record bs ≡ fields v ws after → Begins bs v ws after
unfolding Sound
record-begins bs v ws after h = begins (subst (Sound FieldStart bs) h (sound FieldStart bs))
