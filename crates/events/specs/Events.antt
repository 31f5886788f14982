-- One event of a session. Rule book: "then events to the end: 2 x button + 1 pushes, 2 x button releases"; "One line
-- for the first run (event 0), then one for each event"; "An event refused by 12 prints its number, `refused` and 12;
-- nothing is run"; "After spent, .. or conflict the next event acts on the state left", and after buzz (request A8).
--     event_of v               the event of the number v: it pushes or releases a button
--     named_button v           the button of the event v
--     event_at ed n s at       the event at a place of the input, by the edition ed: a number (1, 2) that names one of
--                              n buttons (7)
--     pressing b h v           the event v pushes or releases its button, from the state and the kept sets h
--     made_lines b h v         the lines of that: those of its push or of its release
--     session_log              "a log of 4,096"
--     Shown                    a line, and the state with the kept sets after what it tells
--     shown e w m h            the line of event e with the word w and m moves, and the state and kept sets h after it
--     tells e r                event e tells what a run answers: its word, its moves and the drawn relays
--     ran_line b e h           event e tells of a run from h
--     pressed_line b e x       event e tells of the push or release x: of the run from the state that it leaves, or of
--                              its refusal
--     event_line b e h v       event e, which is v, from h
--     told_shown               the code's line in the rule book's words
--     RunLine b e h r          promise: `run_line` of event e on board b from h answers r
--     EventLine b e h v r      promise: `event_line` of event e, which is v, likewise
use Rattle.std.specs.Prelude.{ℕ, ◌/◌, ◌%◌, ◌≡◌, cond, List, ltb, eqb, replicate}
use Rattle.refusals.specs.declared.Found.{Found}
use Rattle.refusals.specs.Outcomes.{Outcome, given, refused, found, ◌>>=◌}
use Rattle.refusals.specs.Refusals.{no_such_name}
use Rattle.refusals.specs.Order.{Order}
use Rattle.board.specs.declared.Board.{Board}
use Rattle.kept.specs.declared.Kept.{Kept}
use Rattle.presses.specs.Presses.{push_lines, release_lines, pushing, releasing}
use Rattle.board_reader.specs.Editions.{Edition}
use Rattle.board_reader.specs.Reading.{wanted}
use Rattle.runs.specs.Runs.{Ending}
use Rattle.runs.specs.Running.{Ran, running}
use Rattle.lines.specs.Lines.{Line, event, told_line}
use Rattle.events.specs.declared.Event.{Event}
use Rattle.events.specs.declared.Event.TheVariants.{Push, Release}
use Rattle.events.specs.declared.Shown as code

abbrev pub event_of : ℕ → Event
event_of v = cond (eqb (v % 2) 1) (Push (v / 2)) (Release (v / 2))

abbrev pub named_button : Event → ℕ
named_button (Push n) = n
named_button (Release n) = n

unfoldable pub event_at : Edition → ℕ → List ℕ → ℕ → Outcome (Found Event)
event_at ed n s at = do
  v ← wanted ed (λ v. ltb (v / 2) n) no_such_name s at
  found (event_of v.value) v.next

unfoldable pub pressing : Board → Kept → Event → Kept × Outcome (Unit {0})
pressing b h (Push n) = pushing b h n
pressing b h (Release n) = releasing b h n

abbrev pub made_lines : Board → Kept → Event → Order
made_lines b h (Push n) = push_lines b h n
made_lines b h (Release n) = release_lines b h n

abbrev pub session_log : List ℕ
session_log = replicate 4096 0

abbrev pub Shown : Type 0
Shown = Line × Kept

abbrev pub shown : ℕ → Outcome Ending → ℕ → Kept → Shown
shown e w m h = (event e w m h.state.drawn, h)

abbrev pub tells : ℕ → Ran → Shown
tells e r = shown e r.word r.moves r.kept

unfoldable pub ran_line : Board → ℕ → Kept → Shown
ran_line b e h = tells e (running b h session_log)

unfoldable pub pressed_line : Board → ℕ → Kept × Outcome (Unit {0}) → Shown
pressed_line b e (h, given u) = ran_line b e h
pressed_line b e (h, refused n p) = shown e (refused n p) 0 h

unfoldable pub event_line : Board → ℕ → Kept → Event → Shown
event_line b e h v = pressed_line b e (pressing b h v)

abbrev pub told_shown : code.Shown → Shown
told_shown r = (told_line r.line, r.kept)

abbrev pub RunLine : Board → ℕ → Kept → code.Shown → Type 0
RunLine b e h r = told_shown r ≡ ran_line b e h

abbrev pub EventLine : Board → ℕ → Kept → Event → code.Shown → Type 0
EventLine b e h v r = told_shown r ≡ event_line b e h v
