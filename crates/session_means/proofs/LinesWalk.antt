-- The lines of a session, one after the other, for whatever is to be shown of them: by induction on the events, with
-- the state before each fitting the board, with the sets of both. The theorems are its instances.
use Prim.Native.Nat.{ℕ, zero, suc, ◌/◌}
use mathlib.Core.Path.{◌≡◌, refl, ap, ◌∙◌}
use mathlib.Core.Logic.{◌⊎◌, inl, inr}
use mathlib.Core.Bool.{Bool, true, false, cond}
use mathlib.Core.List.{List, [], ◌∷◌}
use lib.Dec.{leb, ltb}
use lib.ListN.{length}
use Rattle.refusals.specs.declared.Found.{Found}
use Rattle.refusals.specs.Outcomes.{Outcome, given, refused, found, ◌>>=◌, ◌>>◌, unless}
use Rattle.refusals.specs.Refusals.{input_ends, bad_form, no_such_name}
use Rattle.number.specs.Numbers.{current_width, number_at}
use Rattle.number.proofs.NumberLaws.{number_refusal}
use Rattle.board.specs.declared.Board.{Board}
use Rattle.board.specs.Rules.{board_fine}
use Rattle.state.specs.States.{fresh_state}
use Rattle.state.proofs.StateLaws.{fresh_fits}
use Rattle.kept.specs.declared.Kept.{Kept}
use Rattle.kept.specs.Kept.{kept_fresh, usable}
use Rattle.kept.proofs.KeptLaws.{usable_fine}
use Rattle.board_reader.specs.Editions.{current_edition}
use Rattle.board_reader.specs.Reading.{wanted, reading}
use Rattle.board_reader.proofs.EditionLaws.{current_known}
use Rattle.file_means.proofs.GivesLaws.{Gives, gives_then, gives_after}
use Rattle.file_means.proofs.BoardTrip.{BoardIsFine}
use Rattle.file_means.proofs.ReadFine.{read_fine}
use Rattle.lines.specs.Lines.{Line, closing}
use Rattle.events.specs.declared.Event.{Event}
use Rattle.events.specs.Events.{Shown, event_of, named_button, event_at, event_line}
use Rattle.events.proofs.EventLaws.{named_button-event}
use Rattle.session.specs.Sessions.{past_allowance, head_at, event_lines, lines_from, head_lines}
use Rattle.session_means.specs.LinesDrawn.{EventShows}
use Rattle.session_means.specs.EventRefusals.{ClosedByEvent}
use Rattle.session_means.proofs.EventFits.{ShownFits, ran_fits, event_fits}

-- what is to be shown of the lines from event e on, from t: of none, of the line that ends a session, and of an
-- event's line before others
pub record Along (b : Board) (Q : ℕ → Kept → List Line → Type 0) : Type 0 where
  pub none : (e : ℕ) (t : Kept) → Q e t []
  pub closes : (e : ℕ) (t : Kept) (n p : ℕ) → ClosedByEvent (closing n p) → Q e t (closing n p ∷ [])
  pub shown : (e : ℕ) (t : Kept) (x : Shown) (ls : List Line) → EventShows b e t x → ShownFits b x
      → Q (suc e) x.1 ls → Q e t (x.0 ∷ ls)

-- ---- the events

module _ (b : Board) (s : List ℕ) (Q : ℕ → Kept → List Line → Type 0) (so : Along b Q) where
  -- the event's button is one of the board's; or the event is refused by 1, 2 or 7
  abbrev EventRead : Outcome (Found Event) → Type 0
  EventRead (given v) = ltb (named_button v.value) b.counts.buttons ≡ true
  EventRead (refused n p) = ClosedByEvent (closing n p)

  event_read : (at : ℕ) → EventRead (event_at current_edition b.counts.buttons s at)
  unfolding event_at wanted
  event_read at = by (number_at current_width s at) refl
    where
      below : (v : Found ℕ) (t : Bool) → ltb (v.value / 2) b.counts.buttons ≡ t
          → EventRead (unless t no_such_name at >> given v >>= λ v. found (event_of v.value) v.next)
      below v true e = ap (λ (k : ℕ). ltb k b.counts.buttons) (named_button-event v.value) ∙ e
      below v false e = inr (inr refl)

      by : (o : Outcome (Found ℕ)) → number_at current_width s at ≡ o
          → EventRead ((o >>= λ v. unless (ltb (v.value / 2) b.counts.buttons) no_such_name at >> given v)
          >>= λ v. found (event_of v.value) v.next)
      by (given v) is = below v _ refl
      by (refused n p) is = either (number_refusal current_width s at n p is)
        where
          either : ((n ≡ input_ends) × (p ≡ length s)) ⊎ ((n ≡ bad_form) × (p ≡ at)) → EventRead (refused n p)
          either (inl ends) = inl ends.0
          either (inr bad) = inr (inl bad.0)

  -- event e, from t that is not refused by 15, 14 or 18, and the lines after it
  event_walk : (e : ℕ) (t : Kept) (o : Outcome (Found Event)) (go : Kept → ℕ → List Line)
      → usable b t ≡ given tt → EventRead o
      → ((u : Kept) (next : ℕ) → usable b u ≡ given tt → Q (suc (suc e)) u (go u next))
      → Q (suc e) t (event_lines o (event_line b (suc e) t) go)
  event_walk e t (given v) go fits named on =
      let x = event_line b (suc e) t v.value in
      let after = event_fits b (suc e) t v.value fits named in
      so.shown (suc e) t x _ (v.value, refl) after (on x.1 v.next after.fits)
  event_walk e t (refused n p) go fits named on = so.closes (suc e) t n p named

  unless_over : (e : ℕ) (t : Kept) (over : Bool) (ls : List Line) → Q e t ls → Q e t (cond over [] ls)
  unless_over e t true ls all = so.none e t
  unless_over e t false ls all = all

  lines_walk : (k : ℕ) (t : Kept) (e at : ℕ) → usable b t ≡ given tt
      → Q (suc e) t (lines_from current_edition k b s t (suc e) at)
  unfolding lines_from
  lines_walk zero t e at fits = so.none (suc e) t
  lines_walk (suc k) t e at fits =
      unless_over (suc e) t (leb (length s) at) _
      (event_walk e t (event_at current_edition b.counts.buttons s at)
      (λ u. lines_from current_edition k b s u (suc (suc e))) fits (event_read at)
      (λ u next after. lines_walk k u (suc e) next after))

-- ---- the session

abbrev pub HeadFine : Found Board → Type 0
HeadFine h = board_fine h.value ≡ true

pub head_fine : (s : List ℕ) → Gives HeadFine (head_at current_edition s)
unfolding head_at past_allowance
head_fine s =
    gives_then (BoardIsFine current_edition s (reading current_edition s).0) HeadFine (reading current_edition s).1 _
    (read_fine current_edition current_known s)
    (λ at was. gives_after HeadFine (number_at current_width s at) _ (λ w read. was.fine))

pub head_walk : (h : Found Board) (s : List ℕ) → HeadFine h → (Q : ℕ → Kept → List Line → Type 0)
    → Along h.value Q → Q 0 (kept_fresh h.value) (head_lines current_edition (given h) s)
unfolding head_lines
head_walk h s fine Q so =
    let b = h.value in
    let fits = usable_fine b (fresh_state b) fine (fresh_fits b fine) in
    let first = ran_fits b 0 (kept_fresh b) fits in
    so.shown 0 (kept_fresh b) _ _ refl first (lines_walk b s Q so (length s) _ 0 h.next first.fits)
