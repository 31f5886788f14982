-- A session's lines, on its bytes. Rule book: "A session file is a board, the allowance W, then events to the end"; "It
-- reads a session from standard input, from a fresh state", since request A2 that of its board, since request A5 with
-- the sets of neighbours kept beside it; "Board and W are read before the first run. A bad file (10 counts the whole
-- session) or event (1, 2 or 7) prints `refused`, number, place, and ends; earlier lines stand." Request A7: "A
-- session's W is still read, then ignored."
--     past_allowance b o           the board b, and the place past its allowance, where reading that came to o
--     head_at ed s                 the head of the session s by the edition ed, what stands before the events: its
--                                  board, and the place of its first event, or the refusal
--     event_lines o tell go        the lines from an event on: `tell` is the event's own, `go` the lines after it; a
--                                  refused event ends the session
--     lines_from ed k b s t e at   the lines of the events from place `at` on, the first of them event e from the
--                                  state and the kept sets t; of at most k events
--     head_lines ed o s            the lines of the session s with the head o
--     session_lines ed s           the lines of the session s: there are no more events than bytes
--     line_texts                   lines as texts
--     printed                      texts one after the other
--     session_text ed s            all that the session s prints
use Rattle.std.specs.Prelude.{ℕ, zero, suc, cond, List, [], ◌∷◌, ◌++◌, leb, length}
use Rattle.refusals.specs.declared.Found.{Found}
use Rattle.refusals.specs.Outcomes.{Outcome, given, refused, found, ◌>>=◌}
use Rattle.number.specs.Numbers.{number_at}
use Rattle.board.specs.declared.Board.{Board}
use Rattle.kept.specs.declared.Kept.{Kept}
use Rattle.kept.specs.Kept.{kept_fresh}
use Rattle.board_reader.specs.Editions.{Edition}
use Rattle.board_reader.specs.Reading.{reading}
use Rattle.lines.specs.Lines.{Line, closing, line_text}
use Rattle.events.specs.declared.Event.{Event}
use Rattle.events.specs.Events.{Shown, event_at, ran_line, event_line}

unfoldable pub past_allowance : Board → Outcome (Found ℕ) → Outcome (Found Board)
past_allowance b o = do
  w ← o
  found b w.next

unfoldable pub head_at : Edition → List ℕ → Outcome (Found Board)
head_at ed s = do
  at ← (reading ed s).1
  past_allowance (reading ed s).0 (number_at ed.width s at)

abbrev pub event_lines : Outcome (Found Event) → (Event → Shown) → (Kept → ℕ → List Line) → List Line
event_lines (given v) tell go = (tell v.value).0 ∷ go (tell v.value).1 v.next
event_lines (refused n p) tell go = closing n p ∷ []

unfoldable pub lines_from : Edition → ℕ → Board → List ℕ → Kept → ℕ → ℕ → List Line
lines_from ed zero b s t e at = []
lines_from ed (suc k) b s t e at =
    cond (leb (length s) at)
    []
    (event_lines (event_at ed b.counts.buttons s at) (event_line b e t) (λ u. lines_from ed k b s u (suc e)))

unfoldable pub head_lines : Edition → Outcome (Found Board) → List ℕ → List Line
head_lines ed (refused n p) s = closing n p ∷ []
head_lines ed (given h) s =
    let first = ran_line h.value 0 (kept_fresh h.value) in
    first.0 ∷ lines_from ed (length s) h.value s first.1 1 h.next

unfoldable pub session_lines : Edition → List ℕ → List Line
session_lines ed s = head_lines ed (head_at ed s) s

unfoldable pub line_texts : List Line → List (List ℕ)
line_texts [] = []
line_texts (l ∷ ls) = line_text l ∷ line_texts ls

unfoldable pub printed : List (List ℕ) → List ℕ
printed [] = []
printed (x ∷ xs) = x ++ printed xs

unfoldable pub session_text : Edition → List ℕ → List ℕ
session_text ed s = printed (line_texts (session_lines ed s))
