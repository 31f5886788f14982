-- The theorems of specs/SessionsKept.antt: what stands before the events stands, or it was the edition's number for no,
-- and so does each event.
use Prim.Native.Nat.{ℕ, zero, suc}
use mathlib.Core.Path.{◌≡◌, refl, sym, ap, subst, ◌∙◌}
use mathlib.Core.Bool.{Bool, true, false, cond}
use mathlib.Core.List.{List, [], ◌∷◌, ◌++◌}
use lib.Dec.{leb}
use lib.ListN.{length}
use Rattle.lists.specs.Members.{All}
use Rattle.refusals.specs.declared.Found.{Found}
use Rattle.refusals.specs.Outcomes.{Outcome, given, refused}
use Rattle.refusals.specs.Refusals.{bad_form, no_such_kind}
use Rattle.refusals.proofs.Kept.{Kept, stands, was_refused, kept_then}
use Rattle.number.specs.Numbers.{number_at}
use Rattle.board.specs.declared.Board.{Board}
use Rattle.kept.specs.declared.Kept as beside
use Rattle.board_reader.specs.Editions.{Edition, three_byte_edition, first_edition, current_edition}
use Rattle.board_reader.specs.Reading.{answered, reading}
use Rattle.board_reader.proofs.ReadLaws.{board_within, reading_answers}
use Rattle.file_means.proofs.KeptLaws.{Changed, first_changed, second_changed, wanted-kept, board-within-kept}
use Rattle.lines.specs.Lines.{Line, closing}
use Rattle.events.specs.declared.Event.{Event}
use Rattle.events.specs.Events.{Shown, event_at}
use Rattle.session.specs.Sessions.{past_allowance, head_at, event_lines, lines_from, head_lines, session_lines}
use Rattle.session.specs.Sessions.{line_texts, printed, session_text}
use Rattle.session_means.specs.SessionsKept.{Unclosed, SessionsKept, FirstSessionsKept, LinesKept, same, ended}
use Rattle.session_means.specs.SessionsKept.{LinesStand}

-- a line before lines that are kept
kept-behind : {n : ℕ} (l : Line) {ls ms : List Line} → LinesKept n ls ms → LinesKept n (l ∷ ls) (l ∷ ms)
kept-behind l (same is) = same (ap (λ (x : List Line). l ∷ x) is)
kept-behind l (ended before rest p was is) =
    ended (l ∷ before) rest p (ap (λ (x : List Line). l ∷ x) was) (ap (λ (x : List Line). l ∷ x) is)

kept-unless_done : {n : ℕ} (done : Bool) {ls ms : List Line} → LinesKept n ls ms
    → LinesKept n (cond done [] ls) (cond done [] ms)
kept-unless_done true kept = same refl
kept-unless_done false kept = kept

module _ {m : ℕ} (old new : Edition) (more : Changed m old new) (s : List ℕ) where
  event-kept : (n at : ℕ) → Kept m (event_at old n s at) (event_at new n s at)
  unfolding event_at
  event-kept n at = kept_then _ _ (wanted-kept old new more s _ _ at) (λ v. stands refl)

  event_lines-kept : (o o' : Outcome (Found Event)) (tell : Event → Shown) (go go' : beside.Kept → ℕ → List Line)
      → Kept m o o' → ((t : beside.Kept) (at : ℕ) → LinesKept m (go t at) (go' t at))
      → LinesKept m (event_lines o tell go) (event_lines o' tell go')
  event_lines-kept (given v) o' tell go go' (stands is) later = rw is (kept-behind _ (later _ _))
  event_lines-kept (refused n p) o' tell go go' (stands is) later = rw is (same refl)
  event_lines-kept o o' tell go go' (was_refused p is) later = ended [] _ p (rw is) refl

  lines-kept : (k : ℕ) (b : Board) (t : beside.Kept) (e at : ℕ)
      → LinesKept m (lines_from old k b s t e at) (lines_from new k b s t e at)
  unfolding lines_from
  lines-kept zero b t e at = same refl
  lines-kept (suc k) b t e at =
      kept-unless_done (leb (length s) at)
      (event_lines-kept _ _ _ _ _ (event-kept b.counts.buttons at) (λ u next. lines-kept k b u (suc e) next))

  head-kept : Kept m (head_at old s) (head_at new s)
  unfolding head_at past_allowance answered
  head-kept = by (board-within-kept old new more s)
    where
      by : Kept m (board_within old s) (board_within new s) → Kept m (head_at old s) (head_at new s)
      by (stands is) =
          rw (reading_answers new s is ∙ sym (reading_answers old s refl))
          (kept_then (reading old s).1 (reading old s).1 (stands refl)
          (λ at. kept_then (number_at old.width s at) (number_at new.width s at)
          (more.numbers s at) (λ a. stands refl)))
      by (was_refused p is) = was_refused p (rw (reading_answers old s is))

  head_lines-kept : (o o' : Outcome (Found Board)) → Kept m o o'
      → LinesKept m (head_lines old o s) (head_lines new o' s)
  unfolding head_lines
  head_lines-kept (given h) o' (stands is) = rw is (kept-behind _ (lines-kept (length s) _ _ 1 h.next))
  head_lines-kept (refused n p) o' (stands is) = rw is (same refl)
  head_lines-kept o o' (was_refused p is) = ended [] _ p (rw is) refl

  session-kept : LinesKept m (session_lines old s) (session_lines new s)
  unfolding session_lines
  session-kept = head_lines-kept (head_at old s) (head_at new s) head-kept

pub lines_stand : LinesStand
lines_stand s = (
  session-kept three_byte_edition first_edition first_changed s,
  session-kept first_edition current_edition second_changed s,
)

-- a line that ends the session is among these
closed_there : (before : List Line) (n p : ℕ) → All Unclosed (before ++ (closing n p ∷ [])) → ⊥
closed_there [] n p all = all.0
closed_there (l ∷ before) n p all = closed_there before n p all.1

unclosed-same : (n : ℕ) (ls ms : List Line) → All Unclosed ls → LinesKept n ls ms → ms ≡ ls
unclosed-same n ls ms unclosed (same is) = is
unclosed-same n ls ms unclosed (ended before rest p was is) =
    absurd (closed_there before n p (subst (All Unclosed) was unclosed))

abbrev texts : List Line → List ℕ
texts ls = printed (line_texts ls)

pub first_sessions_kept : FirstSessionsKept
unfolding session_text
first_sessions_kept s unclosed =
    ap texts (unclosed-same no_such_kind (session_lines first_edition s) _ unclosed (lines_stand s).1)

pub sessions_kept : SessionsKept
unfolding session_text
sessions_kept s unclosed =
    let first = unclosed-same bad_form (session_lines three_byte_edition s) _ unclosed (lines_stand s).0 in
    first_sessions_kept s (subst (All Unclosed) (sym first) unclosed) ∙ ap texts first
