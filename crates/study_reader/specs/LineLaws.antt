-- What lines of masks, of angles, of masses and of `place` read as, by the words that stand in them: what the line changes of what has been read, with each place by the layout of a model's
-- records (crates/model/specs/Layout.antt). Proved in proofs/LineLaws.antt.
use Rattle.std.specs.Prelude.{ℕ, ◌+◌, ◌≤◌, ◌<◌, ◌≡◌, true, Some, None, is_some, List, [], ◌∷◌, map, Float, length, set}
use Rattle.std.specs.Int.Bits.{bit_or}
use Rattle.floats.specs.Utils.{inv_of}
use Rattle.floats.specs.SinCos.{rotation_from_angle_of}
use Rattle.decimals.specs.Words.{reading_of}
use Rattle.std.specs.Prelude.{Ok}
use Rattle.texts.specs.Ascii.{ascii}
use Rattle.model.specs.Layout.{pose_place, inertia_place, mass_place, frame1_place, frame2_place, masks_place}
use Rattle.study_reader.specs.Words.{next_word, is_empty, bytes_of, next_line, whole_number}
use Rattle.study_reader.specs.Storage.{body_base, joint_base, words_base}
use Rattle.study_reader.specs.Names.{find_body}
use Rattle.study_reader.specs.Keywords.{body_item, joint_item, place_keyword}
use Rattle.study_reader.specs.Draft.{Draft, reached, Default, default, puts}
use Rattle.study_reader.specs.Calls.{read_call}
use Rattle.study_reader.specs.Items.{line_of}
use Rattle.study_reader.specs.Study.{line_read}
use Rattle.study_reader.specs.declared.draft.State.{State}
use Rattle.study_reader.specs.declared.calls.Line.{Line}
use Rattle.study_reader.specs.declared.items.Change.TheVariants.{Call}

-- ---- a line, and what it changes

-- from a place on, these words stand in the line, and no more
abbrev pub HasWords : List ℕ → ℕ → List (List ℕ) → Type 0
HasWords text at [] = is_empty (next_word text at) ≡ true
HasWords text at (w ∷ ws) = (bytes_of text (next_word text at) ≡ w) × HasWords text (next_word text at).end ws

-- the next line has these words, and belongs to an item of this kind
pub record Next (text : List ℕ) (kind : ℕ) (ws : List (List ℕ)) (d : Draft) : Type 0 where
  pub no_fault : d.state.fault ≡ None
  pub left : d.state.at < length text
  pub item : d.state.kind ≡ kind
  pub words : HasWords text d.state.at ws

-- the line leaves these numbers and words; nothing else has changed but where the next line starts, and what tells which line gave them
pub record Leaves (text : List ℕ) (d : Draft) (numbers : List Float) (words : List ℕ) : Type 0 where
  pub these_numbers : (line_read text d).numbers ≡ numbers
  pub these_words : (line_read text d).words ≡ words
  pub names_stay : (line_read text d).names ≡ d.names
  pub state_stays : (line_read text d).state ≡ reached d.state (next_line text d.state.at)

-- ---- masks: a number, or axes by name

pub data Axis : Type 0 where
  x : Axis
  y : Axis
  angle : Axis

abbrev pub axis_name : Axis → List ℕ
axis_name x = ascii "x"
axis_name y = ascii "y"
axis_name angle = ascii "angle"

abbrev pub axis_mask : Axis → ℕ
axis_mask x = 1
axis_mask y = 2
axis_mask angle = 4

-- a mask and further axes: their union
abbrev pub union : ℕ → List Axis → ℕ
union mask [] = mask
union mask (a ∷ axes) = union (bit_or mask (axis_mask a)) axes

-- The word gives the mask at a place of the open joint's words: by its number, or by one to three axes. So `lock x y` reads as `lock 3`.
pub record GivesMask (word : List ℕ) (place : ℕ) : Type 0 where
  pub by_number : (text : List ℕ) (d : Draft) (number : List ℕ) (mask : ℕ) → whole_number number ≡ Some mask → Next text joint_item (word ∷ number ∷ []) d
      → Leaves text d d.numbers (set d.words (words_base d.state.item + place) mask)
  pub by_name : (text : List ℕ) (d : Draft) (axes : List Axis) → 0 < length axes → length axes ≤ 3 → Next text joint_item (word ∷ map axis_name axes) d
      → Leaves text d d.numbers (set d.words (words_base d.state.item + place) (union 0 axes))

-- the four masks of a joint, in the order of a model's words: locked, limited, driven, coupled
pub record MaskLines : Type 0 where
  pub lock : GivesMask (ascii "lock") masks_place
  pub limit : GivesMask (ascii "limit") (masks_place + 1)
  pub motor : GivesMask (ascii "motor") (masks_place + 2)
  pub couple : GivesMask (ascii "couple") (masks_place + 3)

-- ---- one number that gives others

-- the word with a number a gives these numbers of the open item, whose numbers start at a base
pub record GivesNumbers (word : List ℕ) (kind : ℕ) (base : ℕ → ℕ) (these : Float → List Default) : Type 0 where
  pub by_number : (text : List ℕ) (d : Draft) (number : List ℕ) (a : Float) → reading_of number ≡ Ok a → Next text kind (word ∷ number ∷ []) d
      → Leaves text d (puts (base d.state.item) (these a) d.numbers) d.words

-- a rotation by its angle: cosine and sine, at a place and the next
abbrev pub turned : ℕ → Float → List Default
turned place a = default place (rotation_from_angle_of a).re ∷ default (place + 1) (rotation_from_angle_of a).im ∷ []

-- an angle of a body, of frame 1, of frame 2; a mass, or its inverse, for both axes; an inertia
pub record NumberLines : Type 0 where
  pub angle : GivesNumbers (ascii "angle") body_item body_base (turned pose_place)
  pub frame1_angle : GivesNumbers (ascii "frame1_angle") joint_item joint_base (turned frame1_place)
  pub frame2_angle : GivesNumbers (ascii "frame2_angle") joint_item joint_base (turned frame2_place)
  pub mass : GivesNumbers (ascii "mass") body_item body_base (λ a. default mass_place (inv_of a) ∷ default (mass_place + 1) (inv_of a) ∷ [])
  pub inverse_mass : GivesNumbers (ascii "inverse_mass") body_item body_base (λ a. default mass_place a ∷ default (mass_place + 1) a ∷ [])
  pub inertia : GivesNumbers (ascii "inertia") body_item body_base (λ a. default inertia_place (inv_of a) ∷ [])

-- ---- `place BODY X Y`, then an angle, or a cosine and a sine

-- the line of a call places a body
pub record PlacesBody (l : Line) (body : ℕ) (px py re' im' : Float) : Type 0 where
  pub call : l.keyword ≡ place_keyword
  pub no_fault : l.fault ≡ None
  pub body_is : l.number ≡ body
  pub x_is : l.x ≡ px
  pub y_is : l.y ≡ py
  pub re_is : l.re ≡ re'
  pub im_is : l.im ≡ im'

-- the next line is a call of `place`, with no fault, and puts body i at this position with this rotation
abbrev pub Placed : List ℕ → List ℕ → State → ℕ → Float → Float → Float → Float → Type 0
Placed text names st i px py re im =
    let w = next_word text st.at in
    PlacesBody (read_call text names st.bodies st.joints (is_some st.repeat) w) i px py re im × (line_of text names st ≡ Call place_keyword w.start)

-- body i has the name after the line's first word
abbrev pub NamesBody : List ℕ → List ℕ → State → ℕ → Type 0
NamesBody text names st i = find_body text names st.bodies (next_word text (next_word text st.at).end) ≡ Some i

pub record PlaceLines : Type 0 where
  pub by_angle : (text names : List ℕ) (st : State) (i : ℕ) (body nx ny na : List ℕ) (px py a : Float) → NamesBody text names st i
      → reading_of nx ≡ Ok px → reading_of ny ≡ Ok py → reading_of na ≡ Ok a
      → HasWords text st.at (ascii "place" ∷ body ∷ nx ∷ ny ∷ na ∷ [])
      → Placed text names st i px py (rotation_from_angle_of a).re (rotation_from_angle_of a).im
  pub by_pair : (text names : List ℕ) (st : State) (i : ℕ) (body nx ny nc ns : List ℕ) (px py c s : Float) → NamesBody text names st i
      → reading_of nx ≡ Ok px → reading_of ny ≡ Ok py → reading_of nc ≡ Ok c → reading_of ns ≡ Ok s
      → HasWords text st.at (ascii "place" ∷ body ∷ nx ∷ ny ∷ nc ∷ ns ∷ [])
      → Placed text names st i px py c s
