-- The reading at a line, and after it: where it stands, and what the storage has of the model.
use mathlib.Core.Path.{◌≡◌, refl, sym, ap, subst, ◌∙◌}
use mathlib.Core.Bool.{true, false}
use mathlib.Core.List.{List, ◌∷◌}
use Prim.Native.Nat.{ℕ, ◌+◌, ◌*◌, ◌≤◌, ◌<◌}
use native.Mathlib.Omega.{arith}
use borrow.Author.Tests.{lt-leb, lt-ltb}
use lib.Dec.{leb, ltb}
use lib.ListN.{length, drop, length-drop}
use Rattle.model.specs.Layout.{body_width, words_width, body1_place, body2_place, center_choice_place, numbers_width}
use Rattle.multibody.specs.Model.{Model}
use Rattle.study_reader.specs.Storage.{most_items, settings_width, joints_place, numbers_size, words_size, body_base, joint_base, words_base, kept}
use Rattle.std.specs.Prelude.{None}
use Rattle.study_reader.specs.Draft.{Draft, with_state, state_of, reached, opened, item_base, body_defaults, joint_defaults}
use Rattle.study_reader.specs.Items.{ends, no_center, line_of}
use Rattle.study_reader.specs.Study.{numbers_with, origins_with, center_with, word_with, origin_with, open_body, open_joint, applied, line_read}
use Rattle.study_reader.specs.declared.words.Word.{Word}
use Rattle.study_reader.specs.declared.draft.State.{State}
use Rattle.study_reader.specs.declared.items.Numbers.{Numbers}
use Rattle.study_reader.specs.declared.items.Change.{Change}
use Rattle.study_reader.specs.declared.items.Change.TheVariants.{Given, JointWord, OpenSettings, OpenBody, OpenJoint}
use Rattle.study_reader.specs.Keywords.{settings_item, body_item, joint_item}
use Rattle.study_writer.specs.Text.{Line, line_onto, lines_text, body_word, joint_word}
use Rattle.study_writer.proofs.Lexical.{proper_line, line_size, line_after, line-some}
use Rattle.study_writer.proofs.NameLines.{Name}
use Rattle.study_writer.proofs.Agrees.{Agrees, NumbersAgree, Told, IsContents, model_word_at, below_next, below-skip, origin-past, numbers-skip, puts-past, names-length, body-named, joint-named, bodies-named}

-- with no fault and no call
abbrev pub on : ℕ → ℕ → ℕ → ℕ → ℕ → State
on at kind item nb nj = state_of at kind item nb nj None 4294967295 None

-- the lines ls are left
pub record Reading (text : List ℕ) (m : Model) (kind item nb nj top done : ℕ) (ls : List Line) (d : Draft) : Type 0 where
  pub at : ℕ
  pub state : d.state ≡ on at kind item nb nj
  pub left : drop d.state.at text ≡ lines_text ls
  pub agrees : Agrees text m top done nb nj d.numbers d.origins d.words d.names

-- where the numbers of the open item start, and a joint's words
pub body-base : (st : State) {at i nb nj : ℕ} → st ≡ on at body_item i nb nj → i < most_items → item_base st ≡ settings_width + body_width * i
unfolding item_base body_base
body-base st {i = i} e l = ap item_base e ∙ rw (lt-ltb i most_items l) refl

pub joint-base : (st : State) {at j nb nj : ℕ} → st ≡ on at joint_item j nb nj → j < most_items → item_base st ≡ joints_place + numbers_width * j
unfolding item_base joint_base
joint-base st {j = j} e l = ap item_base e ∙ rw (lt-ltb j most_items l) refl

pub words-base : (j : ℕ) → j < most_items → words_base j ≡ words_width * j
unfolding words_base
words-base j l = rw (lt-ltb j most_items l) refl

module _ {text : List ℕ} {m : Model} {kind item nb nj top done : ℕ} {l : Line} {ls : List Line} {d : Draft} (r : Reading text m kind item nb nj top done (l ∷ ls) d) where
  pub here : drop d.state.at text ≡ line_onto l (lines_text ls)
  unfolding lines_text
  here = r.left

  pub kind-is : d.state.kind ≡ kind
  kind-is = ap (λ (s : State). s.kind) r.state

  pub item-is : d.state.item ≡ item
  item-is = ap (λ (s : State). s.item) r.state

  pub bodies-is : d.state.bodies ≡ nb
  bodies-is = ap (λ (s : State). s.bodies) r.state

  pub joints-is : d.state.joints ≡ nj
  joints-is = ap (λ (s : State). s.joints) r.state

  module _ (p : proper_line l ≡ true) where
    line-is-read : (change : Change) → line_of text d.names d.state ≡ change
        → line_read text d ≡ with_state (applied change d) (reached (applied change d).state (d.state.at + line_size l))
    unfolding line_read
    line-is-read change e =
        let f : d.state.fault ≡ None = ap (λ (s : State). s.fault) r.state in
        let b : leb (length text) d.state.at ≡ false = lt-leb (length text) d.state.at (omega (arith, length-drop d.state.at text, ap length here, line-some l (lines_text ls))) in
        simp (f, b, e, (line_after text d.state.at l (lines_text ls) here p).0)

    -- what a line says is done, and the next is reached
    pub line_step : (change : Change) → line_of text d.names d.state ≡ change → {kind' item' nb' nj' top' done' : ℕ} → (applied change d).state ≡ on r.at kind' item' nb' nj'
        → Agrees text m top' done' nb' nj' (applied change d).numbers (applied change d).origins (applied change d).words (applied change d).names
        → Reading text m kind' item' nb' nj' top' done' ls (line_read text d)
    line_step change e {kind'} {item'} {nb'} {nj'} {top'} {done'} s a =
        subst (Reading text m kind' item' nb' nj' top' done' ls) (sym (line-is-read change e))
        (record {
          at = d.state.at + line_size l;
          state = ap (λ (x : State). reached x (d.state.at + line_size l)) s;
          left = (line_after text d.state.at l (lines_text ls) here p).1;
          agrees = a;
        })

    -- plain numbers of the open item
    pub numbers-step : (n : Numbers) → line_of text d.names d.state ≡ Given n → n.center ≡ no_center → {top' : ℕ}
        → NumbersAgree m top' (numbers_with d.state n d.numbers) (origins_with d.state n d.origins) → Reading text m kind item nb nj top' done ls (line_read text d)
    unfolding applied center_with
    numbers-step n e c a =
        line_step (Given n) e r.state
        (record { numbers = a; words = rw c r.agrees.words; names_room = r.agrees.names_room; body-names = r.agrees.body-names; joint-names = r.agrees.joint-names })

    -- a joint's word
    pub word-step : (k v a : ℕ) → line_of text d.names d.state ≡ JointWord k v a → words_base item + k ≡ done → v ≡ model_word_at m done → done < words_size → top ≤ numbers_size
        → Reading text m kind item nb nj top (done + 1) ls (line_read text d)
    unfolding applied word_with origin_with
    word-step k v a e b ev q t =
        line_step (JointWord k v a) e r.state
        (record {
          numbers = origin-past r.agrees.numbers (numbers_size + (words_base d.state.item + k)) (kept a) (omega arith);
          words = rw (item-is, b) (below_next r.agrees.words v (λ u. ev) q);
          names_room = r.agrees.names_room;
          body-names = r.agrees.body-names;
          joint-names = r.agrees.joint-names;
        })

    -- a joint's centre: its numbers, and the word that says how it is given
    pub center-step : (n : Numbers) → line_of text d.names d.state ≡ Given n → ltb n.center no_center ≡ true → words_base item + center_choice_place ≡ done → n.center ≡ model_word_at m done
        → done < words_size → {top' : ℕ} → NumbersAgree m top' (numbers_with d.state n d.numbers) (origins_with d.state n d.origins)
        → Reading text m kind item nb nj top' (done + 1) ls (line_read text d)
    unfolding applied center_with
    center-step n e c b ev q a =
        line_step (Given n) e r.state
        (record {
          numbers = a;
          words = rw (c, item-is, b) (below_next r.agrees.words n.center (λ u. ev) q);
          names_room = r.agrees.names_room;
          body-names = r.agrees.body-names;
          joint-names = r.agrees.joint-names;
        })

    -- items are opened
    pub settings-step : line_of text d.names d.state ≡ OpenSettings → Reading text m settings_item item nb nj top done ls (line_read text d)
    unfolding applied
    settings-step e = line_step OpenSettings e (ap (λ (s : State). opened s settings_item s.item s.bodies s.joints) r.state) r.agrees

    pub body-step : (w : Word) → line_of text d.names d.state ≡ OpenBody w (nb + 1) → length text < 4294967295 → Name text w (body_word nb) → nb < most_items → nj ≡ 0 → top ≤ settings_width + body_width * nb
        → Reading text m body_item nb (nb + 1) nj top done ls (line_read text d)
    unfolding applied open_body body_base
    body-step w e small n few z t =
        line_step (OpenBody w (nb + 1)) e (ap (λ (s : State). opened s body_item s.bodies (nb + 1) s.joints) r.state)
        (rw bodies-is
        (record {
          numbers = rw (lt-ltb nb most_items few) (puts-past (settings_width + body_width * nb) body_defaults t r.agrees.numbers);
          words = r.agrees.words;
          names_room = rw names-length r.agrees.names_room;
          body-names = body-named text d.names small w nb few r.agrees.names_room r.agrees.body-names n;
          joint-names = λ k q. absurd (let y : ⊥ = omega arith in y);
        }))

    pub joint-step : (w : Word) (b1 b2 a1 a2 : ℕ) → line_of text d.names d.state ≡ OpenJoint w (nj + 1) (ends b1 b2 a1 a2) → length text < 4294967295 → Name text w (joint_word nj) → nb ≤ most_items
        → nj < most_items → top ≤ joints_place + numbers_width * nj → done ≡ words_width * nj → b1 ≡ model_word_at m done → b2 ≡ model_word_at m (done + 1)
        → Reading text m joint_item nj nb (nj + 1) top (done + 1 + 1) ls (line_read text d)
    unfolding applied open_joint joint_base word_with origin_with words_base
    joint-step w b1 b2 a1 a2 e small n fb few t q e1 e2 =
        let p1 : words_width * nj + body1_place ≡ done = omega arith in
        let p2 : words_width * nj + body2_place ≡ done + 1 = omega arith in
        line_step (OpenJoint w (nj + 1) (ends b1 b2 a1 a2)) e (ap (λ (s : State). opened s joint_item s.joints s.bodies (nj + 1)) r.state)
        (simp (joints-is, lt-ltb nj most_items few, p1, p2)
        (record {
          numbers =
              origin-past (origin-past (puts-past (joints_place + numbers_width * nj) joint_defaults t r.agrees.numbers) (numbers_size + done) (kept a1) (omega arith)) (numbers_size + (done + 1)) (kept a2)
              (omega arith);
          words = below_next (below_next r.agrees.words b1 (λ u. e1) (omega arith)) b2 (λ u. e2) (omega arith);
          names_room = rw names-length r.agrees.names_room;
          body-names = bodies-named text d.names small w nb nj fb r.agrees.body-names;
          joint-names = joint-named text d.names small w nj few r.agrees.names_room r.agrees.joint-names n;
        }))

-- places of which the text says nothing are passed over
pub pass-over : {text : List ℕ} {m : Model} {kind item nb nj top done : ℕ} {ls : List Line} {d : Draft} → Reading text m kind item nb nj top done ls d → (top' done' : ℕ)
    → ((p : ℕ) → top ≤ p → p < top' → Told m p → ⊥) → ((c : ℕ) → done ≤ c → c < done' → IsContents c → ⊥) → Reading text m kind item nb nj top' done' ls d
pass-over r top' done' f g =
    record {
      at = r.at;
      state = r.state;
      left = r.left;
      agrees =
          record {
            numbers = numbers-skip r.agrees.numbers top' f;
            words = below-skip r.agrees.words done' (λ c x u v t. absurd (g c u v t));
            names_room = r.agrees.names_room;
            body-names = r.agrees.body-names;
            joint-names = r.agrees.joint-names;
          };
    }
