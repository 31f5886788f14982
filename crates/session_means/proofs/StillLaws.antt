-- The lines that a carried session has still to tell: they begin with its next line, and go on with those of the
-- session after it.
use Prim.Native.Nat.{ℕ, zero, suc, ◌+◌, ◌-◌, ◌<◌, ◌≤◌}
use native.Mathlib.Omega.{arith}
use mathlib.Core.Path.{◌≡◌, refl, sym, ap, ◌∙◌}
use mathlib.Core.List.{List, [], ◌∷◌}
use lib.ListN.{length}
use Rattle.refusals.specs.declared.Found.{Found}
use Rattle.refusals.specs.Outcomes.{Outcome}
use Rattle.board.specs.declared.Board.{Board}
use Rattle.board_reader.specs.Editions.{Edition, current_edition}
use Rattle.board_reader.specs.Reading.{longest_input}
use Rattle.lines.specs.Lines.{Line, closing}
use Rattle.events.specs.declared.Event.{Event}
use Rattle.events.specs.Events.{event_at, ran_line, event_line}
use Rattle.session.specs.declared.Session as code-session
use Rattle.session.specs.Sessions.{event_lines, lines_from}
use Rattle.session.specs.Carried.{Stage, first, events, over, refusing, Ahead, Coming, line, no_line}
use Rattle.session.specs.Carried.{following, next_of, told_ahead}
use Rattle.session.proofs.AdvanceLaws.{following_on, following_most}
use Rattle.session.proofs.ComingLaws.{Comes, runs_first, makes_event, bad_event, tells_refusal, at_end, is_over}
use Rattle.session.proofs.ComingLaws.{comes, event_next, next_less}
use Rattle.session.proofs.ToCome.{to_come_at, to_come}
use Rattle.session_means.proofs.FromLaws.{from_end, from_event, from_enough}

unfoldable pub still_at : Edition → Stage → Board → Ahead → List ℕ → List Line
still_at ed first b a s =
    let x = ran_line b a.event a.kept in
    x.0 ∷ lines_from ed (length s) b s x.1 (suc a.event) a.place
still_at ed events b a s = lines_from ed (length s) b s a.kept a.event a.place
still_at ed over b a s = []
still_at ed (refusing n p) b a s = closing n p ∷ []

unfoldable pub still : Edition → Board → Ahead → List ℕ → List Line
still ed b a s = still_at ed a.stage b a s

-- those of the code's session
abbrev pub still_in : code-session.Session → List ℕ → List Line
still_in z s = still current_edition z.board (told_ahead z.ahead) s

-- the number of the next event, with all the lines to come, stays where `following` counts on
abbrev pub Numbered : Ahead → List ℕ → Type 0
Numbered a s = a.event + to_come a s ≤ suc longest_input

abbrev pub NumberedIn : code-session.Session → List ℕ → Type 0
NumberedIn z s = Numbered (told_ahead z.ahead) s

abbrev pub headed : Coming → List Line → List Line
headed (line l) ls = l ∷ ls
headed no_line ls = []

module _ (ed : Edition) (b : Board) (a : Ahead) (s : List ℕ) where
  -- the next line where it is known
  headed_by : (x : Ahead × Coming) → next_of ed b a s ≡ x → still ed b a s ≡ headed x.1 (still ed b x.0 s)
      → still ed b a s ≡ headed (next_of ed b a s).1 (still ed b (next_of ed b a s).0 s)
  headed_by x is told = told ∙ ap (λ (y : Ahead × Coming). headed y.1 (still ed b y.0 s)) (sym is)

  left_at : (k : Stage) → a.stage ≡ k → to_come a s ≡ to_come_at k (length s - a.place)
  unfolding to_come
  left_at k is = ap (λ (k : Stage). to_come_at k (length s - a.place)) is

  -- where a line is to come, the next number is one more
  number_on : Numbered a s → 0 < to_come a s → suc a.event ≡ following a.event
  number_on numbered some = omega (arith, following_on a.event (omega (arith, numbered, some)))

  -- the lines from an event on, by what its number came to
  events-told : (k : ℕ) → a.place < k → {o : Outcome (Found Event)} → a.place < length s
      → event_at ed b.counts.buttons s a.place ≡ o
      → lines_from ed k b s a.kept a.event a.place
      ≡ event_lines o
      (event_line b a.event a.kept)
      (λ u. lines_from ed (k - 1) b s u (suc a.event))
  events-told (suc k) some there is =
      let less : suc k - 1 ≡ k = omega arith in
      rw (less, ← is) (from_event ed b s k a.kept a.event a.place there)
  events-told zero some there is = absurd (omega arith)

  still_by : Numbered a s → Comes ed b a s
      → still ed b a s ≡ headed (next_of ed b a s).1 (still ed b (next_of ed b a s).0 s)
  unfolding still still_at to_come_at
  still_by numbered (runs_first at e) =
      let x = ran_line b a.event a.kept in
      let rest : ℕ → List Line = λ n. lines_from ed (length s) b s x.1 n a.place in
      headed_by _ e
      (rw at (ap {B = List Line} (λ n. x.0 ∷ rest n) (number_on numbered (omega (arith, left_at first at)))))
  still_by numbered (makes_event v at there found e) =
      let x = event_line b a.event a.kept v.value in
      let rest : ℕ → List Line = λ n. lines_from ed (length s) b s x.1 n v.next in
      let later = event_next ed b.counts.buttons s a.place v found in
      headed_by _ e (rw at (
      events-told (length s) there there found
      ∙ ap {B = List Line} (λ ls. x.0 ∷ ls)
      (from_enough ed b s (length s - 1) (length s) x.1 (suc a.event) v.next
      (omega (arith, later)) (omega arith))
      ∙ ap {B = List Line} (λ n. x.0 ∷ rest n) (number_on numbered (omega (arith, left_at events at, there)))))
  still_by numbered (bad_event n p at there bad e) = headed_by _ e (rw at (events-told (length s) there there bad))
  still_by numbered (tells_refusal n p at e) = headed_by _ e (rw at refl)
  still_by numbered (at_end at past e) =
      headed_by _ e (rw at (from_end ed b s (length s) a.kept a.event a.place past))
  still_by numbered (is_over at e) = headed_by _ e (rw at refl)

  -- the lines still to come are the next one and those after it
  pub still_next : Numbered a s → (x : Ahead × Coming) → next_of ed b a s ≡ x
      → still ed b a s ≡ headed x.1 (still ed b x.0 s)
  still_next numbered x is =
      still_by numbered (comes ed b a s) ∙ ap (λ (y : Ahead × Coming). headed y.1 (still ed b y.0 s)) is

  number_by : Comes ed b a s → (next_of ed b a s).0.event ≤ suc a.event
  number_by (runs_first at e) = rw e (following_most a.event)
  number_by (makes_event v at there found e) = rw e (following_most a.event)
  number_by (bad_event n p at there bad e) = rw e (omega arith)
  number_by (tells_refusal n p at e) = rw e (omega arith)
  number_by (at_end at past e) = rw e (omega arith)
  number_by (is_over at e) = rw e (omega arith)

  pub numbered_next : Numbered a s → (y : Ahead) (l : Line) → next_of ed b a s ≡ (y, line l) → Numbered y s
  numbered_next numbered y l is =
      let most : y.event ≤ suc a.event = rw is at (number_by (comes ed b a s)) in
      omega (arith, numbered, most, next_less ed b a y s l is)
