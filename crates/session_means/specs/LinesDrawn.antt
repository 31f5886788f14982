-- Rule book, "The session program": "One line for the first run (event 0), then one for each event: event number, word,
-- moves, and the sum of 2 to the relay number over drawn relays." A line tells the state's word of drawn relays there;
-- in every session that is the sum.
--     EventShows b e t x       x is what event e shows from the state and the kept sets t, in a session with the
--                              board b: its line, and the state with the kept sets after it. Event 0 is the first run
--     PrintsSum b e t l d u    the line l is what event e shows from t, and leaves u, whose state fits the board; and
--                              its last number d is the sum over those of the board's relays that are drawn in it
--     SumsFrom b e t ls        so it is of each event's line of ls: the first is event e's, from t, and each later one
--                              is the next event's, from what the line before it leaves. A closing line is the last
--     LinesDrawn               so it is of the lines of every session whose board and allowance are read, from
--                              the fresh state of its board with its sets
use Rattle.std.specs.Prelude.{ℕ, zero, suc, ◌≡◌, true, List, [], ◌∷◌}
use Rattle.bits.specs.Sets.{sum_below}
use Rattle.refusals.specs.declared.Found.{Found}
use Rattle.refusals.specs.Outcomes.{given}
use Rattle.board.specs.declared.Board.{Board}
use Rattle.state.specs.States.{state_fine}
use Rattle.kept.specs.declared.Kept.{Kept}
use Rattle.kept.specs.Kept.{kept_fresh}
use Rattle.board_reader.specs.Editions.{current_edition}
use Rattle.lines.specs.Lines.{Line, event, closing}
use Rattle.events.specs.declared.Event.{Event}
use Rattle.events.specs.Events.{Shown, ran_line, event_line}
use Rattle.session.specs.Sessions.{head_at, session_lines}

abbrev pub EventShows : Board → ℕ → Kept → Shown → Type 0
EventShows b zero t x = x ≡ ran_line b 0 t
EventShows b (suc e) t x = (v : Event) × (x ≡ event_line b (suc e) t v)

pub record PrintsSum (b : Board) (e : ℕ) (t : Kept) (l : Line) (d : ℕ) (u : Kept) : Type 0 where
  pub shows : EventShows b e t (l, u)
  pub fits : state_fine b.counts u.state ≡ true
  pub sum : d ≡ sum_below b.counts.relays u.state.drawn

abbrev pub SumsFrom : Board → ℕ → Kept → List Line → Type 0
SumsFrom b e t [] = Unit {0}
SumsFrom b e t (event n o m d ∷ ls) = (u : Kept) × (PrintsSum b e t (event n o m d) d u × SumsFrom b (suc e) u ls)
SumsFrom b e t (closing n p ∷ ls) = ls ≡ []

abbrev pub LinesDrawn : Type 0
LinesDrawn =
    (s : List ℕ) (h : Found Board)
    → head_at current_edition s ≡ given h
    → SumsFrom h.value 0 (kept_fresh h.value) (session_lines current_edition s)
