-- What a session carries from line to line, and its next line.
--     Stage                       what the next line is: first, that of the first run; events, that of an event;
--                                 refusing n p, that of the refusal n at p; over, none
--     Ahead                       what changes from line to line: the state with the kept sets, the number and place
--                                 of the next event, and the stage
--     Session                     the board, and what is ahead
--     onward z a                  the session z with a ahead
--     fresh_ahead b at k          what is ahead at the stage k before the first run: the fresh state of board b with
--                                 its sets, and the first event at a place
--     begun_from o, beginning s   the session that begins with the head o; with the head of the input s by the current
--                                 edition
--     Coming                      the next line, or none
--     following e                 the number after e. It stands still past the longest input, where no session comes:
--                                 each event takes a byte
--     goes_on e x at              event e tells x, and the session goes on with the event at a place
--     closes a n p                the session with a ahead tells the refusal n at p, and is over
--     event_comes b a o           the session makes the event o and tells of it; where its number is refused, it tells
--                                 that and is over
--     next_event ed b a s         it tells of the event at its place of the input s, by the edition ed; at the input's
--                                 end nothing comes
--     next_at ed k b a s          its next line at the stage k
--     next_of ed b a s            the next line of the session with the board b and a ahead on the input s, and what
--                                 is ahead after it
--     told_stage, told_ahead      the code's stage and what is ahead in these words
--     told_session                the code's session in these words
--     told_next a r               the code's next line, and what is ahead after it; where there is none, that is a as
--                                 before
--     next_in z s                 the next line of the code's session z on the input s by the current edition, and
--                                 what is ahead after it
--     Begins s z                  promise: `begin` on the input s answers z
use Rattle.std.specs.Prelude.{ℕ, suc, ◌≡◌, cond, List, leb, length, Option, Some, None}
use Rattle.refusals.specs.declared.Found.{Found}
use Rattle.refusals.specs.Outcomes.{Outcome, given, refused}
use Rattle.board.specs.declared.Board.{Board}
use Rattle.board.specs.Parts.{empty_board}
use Rattle.kept.specs.declared.Kept.{Kept}
use Rattle.kept.specs.Kept.{kept_fresh}
use Rattle.board_reader.specs.Editions.{Edition, current_edition}
use Rattle.board_reader.specs.Reading.{longest_input}
use Rattle.lines.specs.Lines.{Line, closing, told_line}
use Rattle.session.specs.declared.Stage as code-stage
use Rattle.session.specs.declared.Stage.TheVariants as said
use Rattle.session.specs.declared.Ahead as code-ahead
use Rattle.session.specs.declared.Session as code-session
use Rattle.session.specs.declared.next.Next.{Next}
use Rattle.events.specs.declared.Event.{Event}
use Rattle.events.specs.Events.{Shown, event_at, ran_line, event_line}
use Rattle.session.specs.Sessions.{head_at}

pub data Stage : Type 0 where
  first events over : Stage
  refusing : ℕ → ℕ → Stage

pub record Ahead : Type 0 where
  pub kept : Kept
  pub event : ℕ
  pub place : ℕ
  pub stage : Stage

pub record Session : Type 0 where
  pub board : Board
  pub ahead : Ahead

abbrev pub onward : Session → Ahead → Session
onward z a = record { board = z.board; ahead = a }

abbrev pub fresh_ahead : Board → ℕ → Stage → Ahead
fresh_ahead b at k = record { kept = kept_fresh b; event = 0; place = at; stage = k }

unfoldable pub begun_from : Outcome (Found Board) → Session
begun_from (given h) = record { board = h.value; ahead = fresh_ahead h.value h.next first }
begun_from (refused n p) = record { board = empty_board; ahead = fresh_ahead empty_board 0 (refusing n p) }

unfoldable pub beginning : List ℕ → Session
beginning s = begun_from (head_at current_edition s)

pub data Coming : Type 0 where
  line : Line → Coming
  no_line : Coming

unfoldable pub following : ℕ → ℕ
following e = cond (leb e longest_input) (suc e) e

abbrev pub goes_on : ℕ → Shown → ℕ → Ahead × Coming
goes_on e x at = (record { kept = x.1; event = following e; place = at; stage = events }, line x.0)

abbrev pub closes : Ahead → ℕ → ℕ → Ahead × Coming
closes a n p = (
  record { kept = a.kept; event = a.event; place = a.place; stage = over },
  line (closing n p),
)

unfoldable pub event_comes : Board → Ahead → Outcome (Found Event) → Ahead × Coming
event_comes b a (given v) = goes_on a.event (event_line b a.event a.kept v.value) v.next
event_comes b a (refused n p) = closes a n p

unfoldable pub next_event : Edition → Board → Ahead → List ℕ → Ahead × Coming
next_event ed b a s =
    cond (leb (length s) a.place) (a, no_line) (event_comes b a (event_at ed b.counts.buttons s a.place))

unfoldable pub next_at : Edition → Stage → Board → Ahead → List ℕ → Ahead × Coming
next_at ed first b a s = goes_on a.event (ran_line b a.event a.kept) a.place
next_at ed events b a s = next_event ed b a s
next_at ed over b a s = (a, no_line)
next_at ed (refusing n p) b a s = closes a n p

unfoldable pub next_of : Edition → Board → Ahead → List ℕ → Ahead × Coming
next_of ed b a s = next_at ed a.stage b a s

abbrev pub told_stage : code-stage.Stage → Stage
told_stage said.First = first
told_stage said.Events = events
told_stage said.Over = over
told_stage (said.Refused r) = refusing r.number r.place

abbrev pub told_ahead : code-ahead.Ahead → Ahead
told_ahead a = record { kept = a.kept; event = a.event; place = a.place; stage = told_stage a.stage }

abbrev pub told_session : code-session.Session → Session
told_session z = record { board = z.board; ahead = told_ahead z.ahead }

abbrev pub told_next : Ahead → Option Next → Ahead × Coming
told_next a (Some r) = (told_ahead r.ahead, line (told_line r.line))
told_next a None = (a, no_line)

abbrev pub next_in : code-session.Session → List ℕ → Ahead × Coming
next_in z s = next_of current_edition z.board (told_ahead z.ahead) s

abbrev pub Begins : List ℕ → code-session.Session → Type 0
Begins s z = told_session z ≡ beginning s
