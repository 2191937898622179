-- RFC 4180's rules for a record as they stand, each as what its text holds: `Record t v ws` says that t is a record by the rules, with v its
-- first field's bytes and ws the further fields'. `first_record` reads each such record (proofs/GrammarLaws.antt) and nothing else
-- (proofs/GrammarSound.antt).
use Rattle.std.specs.Prelude.{◌≡◌, ℕ, true, List, [], ◌∷◌, ◌++◌}
use Rattle.texts.specs.Ascii.{COMMA, CR, DQUOTE, LF}
use Rattle.motor_table.specs.Rfc4180.{is_textdata}

-- *TEXTDATA
pub data Unquoted : List ℕ → Type 0 where
  nothing : Unquoted []
  textdata : {b : ℕ} {t : List ℕ} → is_textdata b ≡ true → Unquoted t → Unquoted (b ∷ t)

-- *(TEXTDATA / COMMA / CR / LF / 2DQUOTE)
pub data Quoted : List ℕ → List ℕ → Type 0 where
  nothing : Quoted [] []
  textdata : {b : ℕ} {t v : List ℕ} → is_textdata b ≡ true → Quoted t v → Quoted (b ∷ t) (b ∷ v)
  comma : {t v : List ℕ} → Quoted t v → Quoted (COMMA ∷ t) (COMMA ∷ v)
  cr : {t v : List ℕ} → Quoted t v → Quoted (CR ∷ t) (CR ∷ v)
  lf : {t v : List ℕ} → Quoted t v → Quoted (LF ∷ t) (LF ∷ v)
  two_dquote : {t v : List ℕ} → Quoted t v → Quoted (DQUOTE ∷ DQUOTE ∷ t) (DQUOTE ∷ v)

-- field = (escaped / non_escaped)
pub data Field : List ℕ → List ℕ → Type 0 where
  escaped : {t v : List ℕ} → Quoted t v → Field (DQUOTE ∷ (t ++ DQUOTE ∷ [])) v
  non_escaped : {t : List ℕ} → Unquoted t → Field t t

-- record = field *(COMMA field)
pub data Record : List ℕ → List ℕ → List (List ℕ) → Type 0 where
  one : {t v : List ℕ} → Field t v → Record t v []
  more : {t v u w : List ℕ} {ws : List (List ℕ)} → Field t v → Record u w ws → Record (t ++ COMMA ∷ u) v (w ∷ ws)

-- what follows a record: the end, or CRLF and the rest
pub data Follows : List ℕ → List ℕ → Type 0 where
  end : Follows [] []
  crlf : {rest : List ℕ} → Follows (CR ∷ LF ∷ rest) rest
