-- A list of calls that change no joint's words: no load among them and no new masks. Whatever they answer, ids and totals stay as they were before the list. So a joint names only what
-- its masks gave it then (`named-before`), row storage that held both totals then is enough at each position (`enough-before`), and no call of the list must be granted or refused alike (`no-alike`).
use Prim.Native.Nat.{ℕ, ◌/◌, ◌≤◌}
use mathlib.Core.Path.{◌≡◌, refl, sym, ap, subst}
use mathlib.Core.Logic.{◌⊎◌, inl, inr, ⊎_elim}
use mathlib.Core.Bool.{Bool, true, false, cond}
use mathlib.Core.List.{List, [], ◌∷◌, Memᴰ}
use lib.Ieee.{Float}
use Rattle.rows.specs.declared.joint_velocity_constraint.WritebackId.{WritebackId}
use Rattle.multibody.specs.Model.{Model}
use Rattle.multibody.specs.System.{System}
use Rattle.multibody.specs.JointRows.{joint_ids}
use Rattle.multibody.specs.Counts.{total_rows, row_capacity, Room}
use Rattle.multibody.specs.Calls.Call.{load, place, build, warm_start, sweep, remove_bias, write_back, read_rows, read_velocity, set_masks, further}
use Rattle.multibody.specs.Calls.{Call, call_table, granted_of, run}
use Rattle.multibody.specs.Traces.{Study, AtEach, AtSome}
use Rattle.multibody.specs.Studies.{model_calls, machine, HasRow, BothOrNeither, Enough, GrantedAlike, Names}
use Rattle.multibody.proofs.Laws.{Laws}
use Rattle.multibody.proofs.Keeps.{BringsNone, run-cases, run-counts, run-total}
use Rattle.multibody.proofs.Premises.{Turn, recorded}

module _ {sys : System} (laws : Laws sys) where
  open sys use {store}

  -- neither a load nor new masks
  abbrev pub KeepsWords : Call sys → Type 0
  KeepsWords load = ⊥
  KeepsWords (place i p) = Unit
  KeepsWords (build warm substep) = Unit
  KeepsWords warm_start = Unit
  KeepsWords (sweep n) = Unit
  KeepsWords remove_bias = Unit
  KeepsWords write_back = Unit
  KeepsWords (read_rows j) = Unit
  KeepsWords (read_velocity i) = Unit
  KeepsWords (set_masks j ms) = ⊥
  KeepsWords (further f) = Unit

  brings-none : (c : Call sys) → KeepsWords c → BringsNone (call_table sys c).masks
  brings-none load k = absurd k
  brings-none (place i p) k = tt
  brings-none (build warm substep) k = tt
  brings-none warm_start k = tt
  brings-none (sweep n) k = tt
  brings-none remove_bias k = tt
  brings-none write_back k = tt
  brings-none (read_rows j) k = tt
  brings-none (read_velocity i) k = tt
  brings-none (set_masks j ms) k = absurd k
  brings-none (further f) k = tt

  alike-none : (c : Call sys) → KeepsWords c → (r r' : ℕ) → BothOrNeither (call_table sys c).alike r r'
  alike-none load k r r' = absurd k
  alike-none (place i p) k r r' = tt
  alike-none (build warm substep) k r r' = tt
  alike-none warm_start k r r' = tt
  alike-none (sweep n) k r r' = tt
  alike-none remove_bias k r r' = tt
  alike-none write_back k r r' = tt
  alike-none (read_rows j) k r r' = tt
  alike-none (read_velocity i) k r r' = tt
  alike-none (set_masks j ms) k r r' = absurd k
  alike-none (further f) k r r' = tt

  granted-words : (c : Call sys) → KeepsWords c → (m : Model) (rows : List Float) → (granted_of sys c m rows).after.words ≡ m.words
  unfolding granted_of
  granted-words load k m rows = absurd k
  granted-words (place i p) k m rows = refl
  granted-words (build warm substep) k m rows = refl
  granted-words warm_start k m rows = refl
  granted-words (sweep n) k m rows = refl
  granted-words remove_bias k m rows = refl
  granted-words write_back k m rows = refl
  granted-words (read_rows j) k m rows = refl
  granted-words (read_velocity i) k m rows = refl
  granted-words (set_masks j ms) k m rows = absurd k
  granted-words (further f) k m rows = refl

  pub run-words : (c : Call sys) → KeepsWords c → (m : Model) (rows : List Float) → (run sys c m rows).after.words ≡ m.words
  run-words c k m rows = run-cases laws c m rows (λ o. o.after.words ≡ m.words) (λ _. granted-words c k m rows) refl

  -- what the row storage of a call holds, it holds after it
  room-kept : (c : Call sys) → KeepsWords c → (m : Model) (rows lent : List Float) → Room store m lent → Room store (run sys c m rows).after lent
  room-kept c k m rows lent h = subst (λ (t : ℕ). t ≤ row_capacity store lent) (sym (run-total laws m rows c (brings-none c k))) h

  rows-room : (c : Call sys) → KeepsWords c → (m : Model) (rows : List Float) → Room store m rows → Room store (run sys c m rows).after (run sys c m rows).rows
  unfolding row_capacity
  rows-room c k m rows h =
      subst (λ (t : ℕ). total_rows store (run sys c m rows).after.words (run sys c m rows).after.numbers ≤ t) (ap (λ (n : ℕ). n / store.row_width) (sym (run-counts laws m rows c).size))
      (room-kept c k m rows rows h)

  -- ---- lists

  abbrev Moment : Type 0
  Moment = Study (machine (model_calls sys))

  unfoldable pub AllKeepWords : List (Turn (model_calls sys)) → Type 0
  AllKeepWords [] = Unit
  AllKeepWords (t ∷ ts) = KeepsWords t.call × AllKeepWords ts

  pub named-before : (ts : List (Turn (model_calls sys))) → AllKeepWords ts → (s s' : Moment) (j : ℕ) (id : WritebackId) → Names (model_calls sys) (recorded (model_calls sys) ts s s') s s' j id
      → HasRow store s.model j id ⊎ HasRow store s'.model j id
  unfolding AllKeepWords AtSome recorded
  named-before [] k s s' j id h = absurd h
  named-before (t ∷ ts) k s s' j id h =
      ⊎_elim (λ n. ⊎_elim (λ r. inl r.1) (λ r. inr r.1) n)
      (λ n. ⊎_elim (λ r. inl (subst Has (run-words t.call k.0 s.model _) r)) (λ r. inr (subst Has (run-words t.call k.0 s'.model _) r)) (named-before ts k.1 _ _ j id n))
      h
    where
      Has : List ℕ → Type 0
      Has words = Memᴰ id (joint_ids store words j)

  -- each call is lent row storage that holds the totals
  unfoldable pub AllLend : List (Turn (model_calls sys)) → Model → Model → Type 0
  AllLend [] m m' = Unit
  AllLend (t ∷ ts) m m' = (Room store m t.lent × Room store m' t.lent') × AllLend ts m m'

  lend-kept : (ts : List (Turn (model_calls sys))) (c : Call sys) → KeepsWords c → (m m' : Model) (rows rows' : List Float) → AllLend ts m m'
      → AllLend ts (run sys c m rows).after (run sys c m' rows').after
  unfolding AllLend
  lend-kept [] c k m m' rows rows' h = tt
  lend-kept (t ∷ ts) c k m m' rows rows' h =
      ((room-kept c k m rows t.lent h.0.0, room-kept c k m' rows' t.lent' h.0.1), lend-kept ts c k m m' rows rows' h.1)

  either : (mark : Bool) (m : Model) (rows lent : List Float) → Room store m rows → Room store m lent → Room store m (cond mark rows lent)
  either true m rows lent h g = h
  either false m rows lent h g = g

  pub enough-before : (ts : List (Turn (model_calls sys))) → AllKeepWords ts → (s s' : Moment) → Room store s.model s.rows → Room store s'.model s'.rows → AllLend ts s.model s'.model
      → AtEach (Enough (model_calls sys)) (recorded (model_calls sys) ts s s') s s'
  unfolding AllKeepWords AllLend AtEach recorded
  enough-before [] k s s' r r' h = tt
  enough-before (t ∷ ts) k s s' r r' h =
      let g = either s.model.built s.model s.rows t.lent r h.0.0 in
      let g' = either s'.model.built s'.model s'.rows t.lent' r' h.0.1 in (
        λ e. (g, g'),
        enough-before ts k.1 _ _ (rows-room t.call k.0 s.model _ g) (rows-room t.call k.0 s'.model _ g')
            (lend-kept ts t.call k.0 s.model s'.model _ _ h.1),
      )

  pub no-alike : (ts : List (Turn (model_calls sys))) → AllKeepWords ts → (s s' : Moment) → AtEach (GrantedAlike (model_calls sys)) (recorded (model_calls sys) ts s s') s s'
  unfolding AllKeepWords AtEach recorded
  no-alike [] k s s' = tt
  no-alike (t ∷ ts) k s s' = (alike-none t.call k.0 _ _, no-alike ts k.1 _ _)
