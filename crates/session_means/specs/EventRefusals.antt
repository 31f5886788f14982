-- Rule book: "An event refused by 12 prints its number, `refused` and 12". A session's line would print any other
-- number as well; but its board was read and breaks no rule, its state fits that board, its kept sets belong to both,
-- and its log is not too long, so no push, release or run of a session is refused by 15, 14, 18, 13 or 7. "A bad file
-- (10 counts the whole session) or event (1, 2 or 7) prints `refused`, number, place, and ends": so an event's own
-- number is refused.
--     OnlyTwelve l       where the line l tells of a refused event, it is refused by 12
--     EventsRefused      so it is of every line of every session
--     ClosedByEvent l    where the line l ends the session, it tells 1, 2 or 7
--     EventsClosed       so it is of every line of every session whose board and allowance are read
use Rattle.std.specs.Prelude.{ℕ, ◌≡◌, ◌⊎◌, List}
use Rattle.lists.specs.Members.{All}
use Rattle.refusals.specs.declared.Found.{Found}
use Rattle.refusals.specs.Outcomes.{given, refused}
use Rattle.refusals.specs.Refusals.{input_ends, bad_form, no_such_name, already_so}
use Rattle.board.specs.declared.Board.{Board}
use Rattle.board_reader.specs.Editions.{current_edition}
use Rattle.lines.specs.Lines.{Line, event, closing}
use Rattle.session.specs.Sessions.{head_at, session_lines}

abbrev pub OnlyTwelve : Line → Type 0
OnlyTwelve (event e (given w) m d) = Unit {0}
OnlyTwelve (event e (refused n p) m d) = n ≡ already_so
OnlyTwelve (closing n p) = Unit {0}

abbrev pub EventsRefused : Type 0
EventsRefused = (s : List ℕ) → All OnlyTwelve (session_lines current_edition s)

abbrev pub ClosedByEvent : Line → Type 0
ClosedByEvent (event e o m d) = Unit {0}
ClosedByEvent (closing n p) = (n ≡ input_ends) ⊎ ((n ≡ bad_form) ⊎ (n ≡ no_such_name))

abbrev pub EventsClosed : Type 0
EventsClosed =
    (s : List ℕ) (h : Found Board)
    → head_at current_edition s ≡ given h
    → All ClosedByEvent (session_lines current_edition s)
