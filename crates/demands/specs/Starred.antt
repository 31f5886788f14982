-- The rule book's "Boards to try (starred: proved)" as one table: the rows that it stars, and others that compute
-- quickly. The rest are run and compared.
--     part k x y, board t r b ps    a part of kind k between x and y; a board of T t, R r, B b and the parts ps
--     mark r                        a mark of relay r, as it is read
--     started n b                   the board b with the set n of relays for its start
--     h0 .. h6, pair                the boards; `pair` is one of ours, on which two relays can move at once
--     h4wound, h4wound_wired        both H4 boards with the winding of a second relay for the wire 4-2: they show the
--                                   slip that H4 showed before it was shunted
--     by_button, over_plus, bridged shunts by a button, over plus, and of a drawing winding
--     on_poles                      a winding right on the poles
--     taken_over                    a hut that was taken over in service: both relays were up, and one holds itself
--     pushed0, pushed_both          the states with button 0 pushed, and with buttons 0 and 1
--     drawn0 s, drawn1 s            the state s with relay 0 drawn, with relay 1 drawn
--     live_with e c, dead_with e    live with effort e and the chain c shown; dead with effort e
--     lent n                        a lent log of n bytes, each 7
--     h0_file, h2_session           H0 as a file, H2 as a session, byte by byte as the rule book prints them
--     h5_file                       H5 as a file
--     h0_line, h2_lines, h5_lines   what H0, H2 and H5 with both pushed print, character by character
--     drew_lines                    the first two lines of H2 and H5, "0 idle 0 0" and "1 idle 1 1"
--     taken_over_file               that hut as a file
--     astray b s t                  the state s with the sets of board b in state t beside it
--     with_sets s xs ys             the state s with sets beside it: xs, and without windings ys, each the first of 64,
--                                   the others empty. A set is a sum: terminal 0 counts 1, terminal 1 counts 2,
--                                   terminal 2 counts 4
--     doubled                       a button and an upper contact side by side
--     Row                           a call and the answer that the rule book states for it:
--       reads s b o                 `read` of the bytes s: the board, and the place just after it or the refusal
--       judged b h k w j            `judge::judge` of winding k of relay 0 of board b, by h, within the allowance w
--       tells b h k j               `divide::judge` of that winding
--       checked b h k x o           `divide::check` of terminal x against that winding: whether it divides, or the
--                                   refusal
--       moved b h r t o             `move_relay` of relay r: what it came to, o, and what it leaves, t
--       ran b h log x               `run` over the lent log: all that it tells
--       pressed p b h n t o         `push` of button n, `release` if not p: what it came to, o, and what it leaves, t
--       reported b n f o            `report` with logs of length n: the figures f, and what it came to, o
--       prints s x                  a session and all that it prints
--       prints_at_every_w f es x    the session of the board file f and the events es at every W: all that it prints
--     judges b s k w j              `judged` in state s, with its sets
--     says b s k j                  `tells` in state s, with its sets: the judgement j
--     dividing b s k x t            `checked` likewise: terminal x divides the winding if t
--     moves b s r t m               `moved` from state s with its sets: the word m, and the state t with its sets
--     runs b s log e m t r l        `ran` likewise: the word e, m moves, the state t with its sets, the relay r, and
--                                   the log l afterwards; it met no state
--     buzzed b s log i d t l        `ran` likewise: buzz, i moves up to the earlier state and d between, the state t
--                                   with its sets, and the log l afterwards
--     figures k i z c s m t f       the figures of a report: k settings, i ended idle, z with buzz, c in conflict and s
--                                   spent, m moves in all, t the most, f the first setting that has it
--     reports b n f                 `reported` of a report that is not refused
--     RowHolds x                    whatever the row's call answers under its promise, it is the row's answer; what a
--                                   session prints is computed (`lines` and `all_lines` of `AsTheModelSays` say that
--                                   the calls hand out just these lines)
--     starred                       the rows that the rule book stars
--     besides                       rows that it does not star, and H2, with rows of ours: two relays that can move at
--                                   once, logs that are just long enough, the numbers of request A1
--     marks                         rows on the marks of request A2: in files, on boards handed in, and in a session
--     shunts                        rows on the shunted windings of request A4, by which H4 and H6 are dead
--     kept                          rows on the kept sets of request A5: a pair that a second part joins stays joined,
--                                   both ends are updated, a lower contact opens on a draw; sets of another state, or
--                                   with a bit too few, are refused by 18, after 14 and before 11 and 12, with state
--                                   and sets as given
--     divided                       rows on the judge of request A6, and on the check of a terminal: an end that is a
--                                   pole, poles that divide, the lowest of several, a shunted winding that is divided;
--                                   the refusals in their order, 19 the last
--     ignored                       the amended case of request A7: "H5 with both pushed is in conflict at every W"
--     pulsing, pulsing_file         a pulse generator, and as a file: relay 0 draws, then relay 1 buzzes
--     met                           rows on the meetings of request A8: a log that is just long enough, one too short,
--                                   a lead-in, and a session's line
--     crossed                       two relays, each fed through the other's lower contact
--     ordered                       rows on request A9: two relays that can move at once, on `pair`, where the order of
--                                   moves does not matter, and on `crossed`, where it does
--     two_feeds, thirteen           a relay that either of two buttons feeds; thirteen buttons and nothing else
--     all_set                       rows on request A10: reports on all settings
--     Starred                       every row of the ten holds
use Rattle.std.specs.Prelude.{ℕ, ◌+◌, ◌-◌, ◌≤◌, ◌≡◌, List, [], ◌∷◌, ◌++◌, Bool, true, false, length, replicate}
use Rattle.std.specs.Prelude.{Result}
use Rattle.std.proofs.Math.Option.{none, some}
use Rattle.lists.specs.Members.{All}
use Rattle.refusals.specs.declared.Refusal.{Refusal}
use Rattle.refusals.specs.Outcomes.{Outcome, given, refused, told, told_as}
use Rattle.refusals.specs.Refusals.{input_ends, bad_form, out_of_range, no_such_kind, no_such_name, winding_lacking}
use Rattle.refusals.specs.Refusals.{no_such_winding, already_so, state_beyond_board, broken_board, marked_twice}
use Rattle.refusals.specs.Refusals.{foreign_sets}
use Rattle.refusals.specs.Refusals.{terminal_beyond, log_too_long, too_many_buttons}
use Rattle.number.specs.Numbers.{current_width}
use Rattle.kinds.specs.declared.Kind.{Kind}
use Rattle.kinds.specs.declared.Kind.TheVariants.{Wire, Upper, Lower, Button, Regular, Drawing, Dropping, Mark}
use Rattle.board.specs.declared.Part.{Part}
use Rattle.board.specs.declared.Board.{Board}
use Rattle.board.specs.Parts.{padded, empty_board}
use Rattle.board.specs.Rules.{most_terminals}
use Rattle.state.specs.declared.State.{State}
use Rattle.state.specs.States.{empty_state, fresh_state, with_drawn, with_pushed, with_released}
use Rattle.neighbours.specs.Neighbours.{sets_of}
use Rattle.kept.specs.declared.Kept.{Kept}
use Rattle.kept.specs.Kept.{kept_at}
use Rattle.presses.specs.declared.Pressed.{Pressed}
use Rattle.presses.specs.Presses.{told_pressed, Pushes, Releases}
use Rattle.board_reader.specs.declared.BoardRead.{BoardRead}
use Rattle.board_reader.specs.Editions.{current_edition}
use Rattle.board_reader.specs.Reading.{told_board_read, Reads}
use Rattle.search.specs.declared.Verdict as code-verdict
use Rattle.search.specs.Verdicts.{Verdict, settled, unsettled, unanswered, told_verdict}
use Rattle.judge.specs.declared.Which.{Which}
use Rattle.judge.specs.declared.Which.TheVariants.{First, Second}
use Rattle.judge.specs.Judging.{Judges}
use Rattle.divide.specs.declared.Judgement as code-judgement
use Rattle.divide.specs.AtOnce.{Judgement, live, shunted, dead, told_judgement, JudgesAtOnce}
use Rattle.divide.specs.AtOnce.{ChecksTerminal}
use Rattle.moves.specs.Steps as step
use Rattle.moves.specs.declared.Moved.{Moved}
use Rattle.moves.specs.Moving.{told_moved, Moves}
use Rattle.runs.specs.Runs.{Ending, idle, spent, conflict, buzz, no_relay}
use Rattle.runs.specs.declared.Ran.{Ran}
use Rattle.runs.specs.Running as told
use Rattle.runs.specs.Running.{unrun, told_ran, Runs}
use Rattle.report.specs.declared.Figures.{Figures}
use Rattle.report.specs.declared.Reported.{Reported}
use Rattle.report.specs.Figures.{no_figures}
use Rattle.report.specs.Reporting.{told_reported, Reports}
use Rattle.session.specs.Sessions.{session_text}
use Rattle.session_means.specs.AnyAllowance.{session_of}

abbrev pub part : Kind → ℕ → ℕ → Part
part k x y = record { a = x; b = y; kind = k }

abbrev pub board : ℕ → ℕ → ℕ → List Part → Board
board t r b ps =
    record {
      counts = record { terminals = t; relays = r; buttons = b; parts = length ps };
      parts = padded ps;
      start = 0;
    }

abbrev pub mark : ℕ → Part
mark r = part (Mark r) 0 0

abbrev pub started : ℕ → Board → Board
started n b = record { counts = b.counts; parts = b.parts; start = n }

-- `02 00 00 00`
abbrev pub h0_file : List ℕ
h0_file = 2 ∷ 0 ∷ 0 ∷ 0 ∷ []

abbrev pub h0 : Board
h0 = board 2 0 0 []

-- T 3, button 0 on 0-2, regular winding on 2-1
abbrev pub h1 : Board
h1 = board 3 1 1 (part (Button 0) 0 2 ∷ part (Regular 0) 2 1 ∷ [])

-- `03 01 01 03 03 00 02 00 01 00 02 00 04 02 01 00 64 01 00`
abbrev pub h2_session : List ℕ
h2_session = 3 ∷ 1 ∷ 1 ∷ 3 ∷ 3 ∷ 0 ∷ 2 ∷ 0 ∷ 1 ∷ 0 ∷ 2 ∷ 0 ∷ 4 ∷ 2 ∷ 1 ∷ 0 ∷ 100 ∷ 1 ∷ 0 ∷ []

-- "0 idle 0 0" and a line end
abbrev pub h0_line : List ℕ
h0_line = 48 ∷ 32 ∷ 105 ∷ 100 ∷ 108 ∷ 101 ∷ 32 ∷ 48 ∷ 32 ∷ 48 ∷ 10 ∷ []

-- "0 idle 0 0", "1 idle 1 1", each with a line end
abbrev pub drew_lines : List ℕ
drew_lines = h0_line ++ (49 ∷ 32 ∷ 105 ∷ 100 ∷ 108 ∷ 101 ∷ 32 ∷ 49 ∷ 32 ∷ 49 ∷ 10 ∷ [])

-- these and "2 idle 0 1"
abbrev pub h2_lines : List ℕ
h2_lines = drew_lines ++ (50 ∷ 32 ∷ 105 ∷ 100 ∷ 108 ∷ 101 ∷ 32 ∷ 48 ∷ 32 ∷ 49 ∷ 10 ∷ [])

-- T 3, lower contact of relay 0 on 0-2, its winding on 2-1
abbrev pub h3 : Board
h3 = board 3 1 0 (part (Lower 0) 0 2 ∷ part (Regular 0) 2 1 ∷ [])

-- T 5, wires 0-2, 2-3, 4-2, winding 3-4
abbrev pub h4 : Board
h4 = board 5 1 0 (part Wire 0 2 ∷ part Wire 2 3 ∷ part Wire 4 2 ∷ part (Regular 0) 3 4 ∷ [])

-- with a wire 2-1 more
abbrev pub h4wired : Board
h4wired = board 5 1 0 (part Wire 0 2 ∷ part Wire 2 3 ∷ part Wire 4 2 ∷ part (Regular 0) 3 4 ∷ part Wire 2 1 ∷ [])

-- H4 with the winding of relay 1 for the wire 4-2
abbrev pub h4wound : Board
h4wound = board 5 2 0 (part Wire 0 2 ∷ part Wire 2 3 ∷ part (Regular 1) 4 2 ∷ part (Regular 0) 3 4 ∷ [])

-- with a wire 2-1 more
abbrev pub h4wound_wired : Board
h4wound_wired =
    board 5 2 0
    (part Wire 0 2 ∷ part Wire 2 3 ∷ part (Regular 1) 4 2 ∷ part (Regular 0) 3 4 ∷ part Wire 2 1 ∷ [])

-- T 4, buttons 0 on 0-2 and 1 on 0-3, drawing winding 2-1, dropping winding 3-1
abbrev pub h5 : Board
h5 = board 4 1 2 (part (Button 0) 0 2 ∷ part (Button 1) 0 3 ∷ part (Drawing 0) 2 1 ∷ part (Dropping 0) 3 1 ∷ [])

-- `04 01 02 04 03 00 02 00 03 00 03 01 05 02 01 00 06 03 01 00`
abbrev pub h5_file : List ℕ
h5_file = 4 ∷ 1 ∷ 2 ∷ 4 ∷ 3 ∷ 0 ∷ 2 ∷ 0 ∷ 3 ∷ 0 ∷ 3 ∷ 1 ∷ 5 ∷ 2 ∷ 1 ∷ 0 ∷ 6 ∷ 3 ∷ 1 ∷ 0 ∷ []

-- "0 idle 0 0", "1 idle 1 1" and "2 conflict 0 1"
abbrev pub h5_lines : List ℕ
h5_lines = drew_lines ++ (50 ∷ 32 ∷ 99 ∷ 111 ∷ 110 ∷ 102 ∷ 108 ∷ 105 ∷ 99 ∷ 116 ∷ 32 ∷ 48 ∷ 32 ∷ 49 ∷ 10 ∷ [])

-- T 3, wires 0-2 and 2-1, winding 2-1
abbrev pub h6 : Board
h6 = board 3 1 0 (part Wire 0 2 ∷ part Wire 2 1 ∷ part (Regular 0) 2 1 ∷ [])

-- T 3, relay 1's winding on 0-2, relay 0's on 2-1, and button 0 across that
abbrev pub by_button : Board
by_button = board 3 2 1 (part (Regular 1) 0 2 ∷ part (Regular 0) 2 1 ∷ part (Button 0) 2 1 ∷ [])

-- T 4, wires 0-2 and 0-3, relay 1's winding on 2-3, shunted over plus, relay 0's on 3-1
abbrev pub over_plus : Board
over_plus = board 4 2 0 (part Wire 0 2 ∷ part Wire 0 3 ∷ part (Regular 1) 2 3 ∷ part (Regular 0) 3 1 ∷ [])

-- T 5, buttons 0 on 0-2 and 1 on 0-4, drawing winding 2-3 with a wire across it, relay 1's winding on 3-1, dropping
-- winding 4-1
abbrev pub bridged : Board
bridged =
    board 5 2 2
    (part (Button 0) 0 2 ∷ part (Button 1) 0 4 ∷ part (Drawing 0) 2 3 ∷ part Wire 2 3 ∷ part (Regular 1) 3 1
    ∷ part (Dropping 0) 4 1 ∷ [])

-- T 3, wire 0-2, windings of relays 1 and 0 on 2-1
abbrev pub pair : Board
pair = board 3 2 0 (part Wire 0 2 ∷ part (Regular 1) 2 1 ∷ part (Regular 0) 2 1 ∷ [])

-- T 4, upper contact of relay 0 on 0-2, its winding on 2-1, relay 1's on 3-1, and both start drawn
abbrev pub taken_over : Board
taken_over =
    started 3
    (board 4 2 0 (part (Upper 0) 0 2 ∷ part (Regular 0) 2 1 ∷ mark 0 ∷ part (Regular 1) 3 1 ∷ mark 1 ∷ []))

-- `04 02 00 05 01 00 02 00 04 02 01 00 07 00 04 03 01 01 07 01`
abbrev pub taken_over_file : List ℕ
taken_over_file =
    4 ∷ 2 ∷ 0 ∷ 5 ∷ 1 ∷ 0 ∷ 2 ∷ 0 ∷ 4 ∷ 2 ∷ 1 ∷ 0 ∷ 7 ∷ 0 ∷ 4 ∷ 3 ∷ 1 ∷ 1 ∷ 7 ∷ 1 ∷ []

-- T 3, button 0 and the upper contact of relay 0 on 0-2, its winding on 2-1
abbrev pub doubled : Board
doubled = board 3 1 1 (part (Button 0) 0 2 ∷ part (Upper 0) 0 2 ∷ part (Regular 0) 2 1 ∷ [])

-- T 2, winding on 0-1
abbrev pub on_poles : Board
on_poles = board 2 1 0 (part (Regular 0) 0 1 ∷ [])

abbrev pub pushed0 : State
pushed0 = with_pushed empty_state 0

abbrev pub pushed_both : State
pushed_both = with_pushed pushed0 1

abbrev pub drawn0 : State → State
drawn0 s = with_drawn s 0

abbrev pub drawn1 : State → State
drawn1 s = with_drawn s 1

abbrev pub live_with : ℕ → List ℕ → Verdict
live_with e c = settled e (some c)

abbrev pub dead_with : ℕ → Verdict
dead_with e = settled e none

abbrev pub lent : ℕ → List ℕ
lent n = replicate n 7

abbrev pub astray : Board → State → State → Kept
astray b s t = record { state = s; sets = sets_of b t }

abbrev pub with_sets : State → List ℕ → List ℕ → Kept
with_sets s xs ys =
    record {
      state = s;
      sets = record {
        near = xs ++ replicate (most_terminals - length xs) 0;
        bare = ys ++ replicate (most_terminals - length ys) 0;
      };
    }

pub data Row : Type 0 where
  reads : List ℕ → Board → Outcome ℕ → Row
  judged : Board → Kept → Which → ℕ → Verdict → Row
  tells : Board → Kept → Which → Outcome Judgement → Row
  checked : Board → Kept → Which → ℕ → Outcome Bool → Row
  moved : Board → Kept → ℕ → Kept → Outcome step.Move → Row
  ran : Board → Kept → List ℕ → told.Ran → Row
  pressed : Bool → Board → Kept → ℕ → Kept → Outcome (Unit {0}) → Row
  reported : Board → ℕ → Figures → Outcome (Unit {0}) → Row
  prints : List ℕ → List ℕ → Row
  prints_at_every_w : List ℕ → List ℕ → List ℕ → Row

abbrev pub judges : Board → State → Which → ℕ → Verdict → Row
judges b s k w j = judged b (kept_at b s) k w j

abbrev pub says : Board → State → Which → Judgement → Row
says b s k j = tells b (kept_at b s) k (given j)

abbrev pub dividing : Board → State → Which → ℕ → Bool → Row
dividing b s k x t = checked b (kept_at b s) k x (given t)

abbrev pub moves : Board → State → ℕ → State → step.Move → Row
moves b s r t m = moved b (kept_at b s) r (kept_at b t) (given m)

abbrev pub runs : Board → State → List ℕ → Ending → ℕ → State → ℕ → List ℕ → Row
runs b s log e m t r l =
    ran b (kept_at b s) log
    (record { word = given e; moves = m; kept = kept_at b t; relay = r; earlier = 0; between = 0; log = l })

abbrev pub buzzed : Board → State → List ℕ → ℕ → ℕ → State → List ℕ → Row
buzzed b s log i d t l =
    ran b (kept_at b s) log
    (record {
      word = given buzz;
      moves = i + d;
      kept = kept_at b t;
      relay = no_relay;
      earlier = i;
      between = d;
      log = l;
    })

abbrev pub figures : ℕ → ℕ → ℕ → ℕ → ℕ → ℕ → ℕ → ℕ → Figures
figures k i z c s m t f =
    record { settings = k; idle = i; buzz = z; conflict = c; spent = s; moves = m; most = t; first = f }

abbrev pub reports : Board → ℕ → Figures → Row
reports b n f = reported b n f (given tt)

abbrev pub RowHolds : Row → Type 0
RowHolds (reads s b o) = (x : BoardRead) → Reads s x → told_board_read x ≡ (b, o)
RowHolds (judged b h k w j) = (v : code-verdict.Verdict) → Judges b h 0 k w v → told_verdict v ≡ j
RowHolds (tells b h k j) = (a : Result code-judgement.Judgement Refusal) → JudgesAtOnce b h 0 k a
    → told_as told_judgement a ≡ j
RowHolds (checked b h k x o) = (a : Result Bool Refusal) → ChecksTerminal b h 0 k x a → told a ≡ o
RowHolds (moved b h r t o) = (a : Moved) → Moves b h r a → told_moved a ≡ (t, o)
RowHolds (ran b h log x) = (a : Ran) (k : List ℕ) → Runs b h log a k → told_ran a k ≡ x
RowHolds (pressed true b h n t o) = (x : Pressed) → Pushes b h n x → told_pressed x ≡ (t, o)
RowHolds (pressed false b h n t o) = (x : Pressed) → Releases b h n x → told_pressed x ≡ (t, o)
RowHolds (reported b n f o) = (r : Reported) → Reports b n r → told_reported r ≡ (f, o)
RowHolds (prints s x) = session_text current_edition s ≡ x
RowHolds (prints_at_every_w f es x) =
    (w : ℕ) → w ≤ current_width.largest → session_text current_edition (session_of f w es) ≡ x

-- H0 .. H6 and the number `80 00`, in the rule book's order; of both H4 boards and H6 as request A4 has them
abbrev pub starred : List Row
starred =
    reads h0_file h0 (given 4)
    ∷ runs h0 empty_state (lent 2) idle 0 empty_state no_relay (lent 2)
    ∷ judges h1 empty_state First 100 (dead_with 1)
    ∷ judges h1 pushed0 First 100 (live_with 3 (0 ∷ 2 ∷ 1 ∷ []))
    ∷ judges h1 pushed0 First 2 (unsettled 2)
    ∷ buzzed h3 empty_state (lent 5) 0 2 empty_state (128 ∷ 0 ∷ 7 ∷ 7 ∷ 7 ∷ [])
    ∷ runs h3 empty_state [] spent 0 empty_state 0 []
    ∷ judges h4 empty_state First 100 (dead_with 0)
    ∷ judges h4 empty_state First 5 (dead_with 0)
    ∷ judges h4wired empty_state First 100 (dead_with 0)
    ∷ judges h5 pushed_both First 100 (live_with 3 (0 ∷ 2 ∷ 1 ∷ []))
    ∷ judges h5 pushed_both Second 100 (live_with 5 (0 ∷ 3 ∷ 1 ∷ []))
    ∷ moves h5 pushed_both 0 pushed_both step.conflict
    ∷ moves h5 pushed0 0 (drawn0 pushed0) step.drew
    ∷ moves h5 (drawn0 empty_state) 0 (drawn0 empty_state) step.rests
    ∷ judges h6 empty_state First 100 (dead_with 0)
    ∷ reads (128 ∷ 0 ∷ []) empty_board (refused bad_form 0)
    ∷ []

abbrev pub besides : List Row
besides =
    runs h0 empty_state [] idle 0 empty_state no_relay []
    ∷ reads [] empty_board (refused input_ends 0)
    ∷ reads (1 ∷ 0 ∷ 0 ∷ 0 ∷ []) empty_board (refused out_of_range 0)
    ∷ reads (65 ∷ 0 ∷ 0 ∷ 0 ∷ []) empty_board (refused out_of_range 0)
    ∷ reads (64 ∷ 0 ∷ 0 ∷ 0 ∷ []) (board 64 0 0 []) (given 4)
    ∷ prints h2_session h2_lines
    ∷ judges h5 pushed_both Second 4 (unsettled 4)
    ∷ runs h5 pushed_both (lent 2) conflict 0 pushed_both 0 (lent 2)
    ∷ runs h5 pushed0 (lent 2) idle 1 (drawn0 pushed0) no_relay (128 ∷ 7 ∷ [])
    ∷ runs h5 pushed0 (lent 1) idle 1 (drawn0 pushed0) no_relay (128 ∷ [])
    ∷ runs h5 (with_released (drawn0 pushed0) 0) (lent 2) idle 0 (drawn0 empty_state) no_relay (lent 2)
    ∷ runs pair empty_state (lent 3) idle 2 (drawn1 (drawn0 empty_state)) no_relay (128 ∷ 129 ∷ 7 ∷ [])
    ∷ reads (128 ∷ 128 ∷ []) empty_board (refused input_ends 2)
    ∷ reads (128 ∷ 128 ∷ 128 ∷ []) empty_board (refused input_ends 3)
    ∷ reads (128 ∷ 128 ∷ 128 ∷ 128 ∷ []) empty_board (refused input_ends 4)
    ∷ reads (128 ∷ 128 ∷ 128 ∷ 128 ∷ 128 ∷ []) empty_board (refused bad_form 0)
    ∷ reads (128 ∷ 128 ∷ 128 ∷ 128 ∷ 0 ∷ []) empty_board (refused bad_form 0)
    ∷ reads (255 ∷ 255 ∷ 255 ∷ 255 ∷ 15 ∷ []) empty_board (refused out_of_range 0)
    ∷ reads (255 ∷ 255 ∷ 255 ∷ 255 ∷ 16 ∷ []) empty_board (refused bad_form 0)
    ∷ reads (128 ∷ 128 ∷ 128 ∷ 128 ∷ 16 ∷ []) empty_board (refused bad_form 0)
    ∷ reads (255 ∷ 255 ∷ 255 ∷ 255 ∷ 127 ∷ []) empty_board (refused bad_form 0)
    ∷ reads (2 ∷ 0 ∷ 0 ∷ 1 ∷ 132 ∷ 2 ∷ []) empty_board (refused no_such_kind 4)
    ∷ prints (h0_file ++ (255 ∷ 255 ∷ 127 ∷ [])) h0_line
    ∷ prints (h0_file ++ (255 ∷ 255 ∷ 255 ∷ 255 ∷ 15 ∷ [])) h0_line
    ∷ []

abbrev pub marks : List Row
marks =
    reads taken_over_file taken_over (given 20)
    ∷ reads (2 ∷ 1 ∷ 0 ∷ 3 ∷ 7 ∷ 0 ∷ 5 ∷ 0 ∷ 1 ∷ 0 ∷ 6 ∷ 0 ∷ 1 ∷ 0 ∷ [])
    (started 1 (board 2 1 0 (mark 0 ∷ part (Drawing 0) 0 1 ∷ part (Dropping 0) 0 1 ∷ []))) (given 14)
    ∷ reads (2 ∷ 1 ∷ 0 ∷ 1 ∷ 7 ∷ 0 ∷ []) empty_board (refused winding_lacking 6)
    ∷ reads (2 ∷ 1 ∷ 0 ∷ 3 ∷ 4 ∷ 0 ∷ 1 ∷ 0 ∷ 7 ∷ 0 ∷ []) empty_board (refused input_ends 10)
    ∷ reads (2 ∷ 1 ∷ 0 ∷ 3 ∷ 4 ∷ 0 ∷ 1 ∷ 0 ∷ 7 ∷ 0 ∷ 7 ∷ 0 ∷ []) empty_board (refused marked_twice 11)
    ∷ reads (2 ∷ 1 ∷ 0 ∷ 1 ∷ 7 ∷ 1 ∷ []) empty_board (refused no_such_name 5)
    ∷ reads (2 ∷ 1 ∷ 0 ∷ 1 ∷ 7 ∷ []) empty_board (refused input_ends 5)
    ∷ reads (2 ∷ 1 ∷ 0 ∷ 1 ∷ 8 ∷ 0 ∷ []) empty_board (refused no_such_kind 4)
    ∷ judges (started 1 h1) pushed0 First 100 (unanswered broken_board 0)
    ∷ judges (started 0 taken_over) empty_state First 100 (unanswered broken_board 0)
    ∷ judges (started 1 (board 3 1 0 (part (Regular 0) 2 1 ∷ part (Mark 0) 0 2 ∷ []))) empty_state First 100
    (dead_with 1)
    ∷ judges (started 1 (board 2 1 0 (part (Regular 0) 0 1 ∷ part (Mark 0) 200 200 ∷ []))) empty_state First 100
    (live_with 2 (0 ∷ 1 ∷ []))
    ∷ runs taken_over (fresh_state taken_over) (lent 2) idle 1 (drawn0 empty_state) no_relay (1 ∷ 7 ∷ [])
    ∷ prints (taken_over_file ++ (100 ∷ [])) (48 ∷ 32 ∷ 105 ∷ 100 ∷ 108 ∷ 101 ∷ 32 ∷ 49 ∷ 32 ∷ 49 ∷ 10 ∷ [])
    ∷ []

abbrev pub shunts : List Row
shunts =
    judges h4 empty_state First 0 (dead_with 0)
    ∷ judges h4wired empty_state First 0 (dead_with 0)
    ∷ judges h6 empty_state First 0 (dead_with 0)
    ∷ moves h6 (drawn0 empty_state) 0 empty_state step.dropped
    ∷ judges h4wound empty_state First 100 (dead_with 6)
    ∷ judges h4wound empty_state First 5 (unsettled 5)
    ∷ judges h4wound_wired empty_state First 100 (dead_with 7)
    ∷ judges by_button empty_state First 100 (live_with 3 (0 ∷ 2 ∷ 1 ∷ []))
    ∷ runs by_button (drawn1 (drawn0 pushed0)) (lent 2) idle 1 (drawn1 pushed0) no_relay (0 ∷ 7 ∷ [])
    ∷ judges over_plus empty_state First 100 (live_with 4 (0 ∷ 2 ∷ 3 ∷ 1 ∷ []))
    ∷ judges bridged pushed_both First 100 (dead_with 0)
    ∷ moves bridged (drawn0 pushed_both) 0 pushed_both step.dropped
    ∷ []

abbrev pub kept : List Row
kept =
    pressed true h1 (kept_at h1 empty_state) 0 (with_sets pushed0 (4 ∷ 4 ∷ 3 ∷ []) (4 ∷ 0 ∷ 1 ∷ [])) (given tt)
    ∷ pressed false h1 (with_sets pushed0 (4 ∷ 4 ∷ 3 ∷ []) (4 ∷ 0 ∷ 1 ∷ [])) 0
    (with_sets empty_state (0 ∷ 4 ∷ 2 ∷ []) [])
    (given tt)
    ∷ pressed false doubled (kept_at doubled (drawn0 pushed0)) 0
    (with_sets (drawn0 empty_state) (4 ∷ 4 ∷ 3 ∷ []) (4 ∷ 0 ∷ 1 ∷ [])) (given tt)
    ∷ moved h3 (with_sets empty_state (4 ∷ 4 ∷ 3 ∷ []) (4 ∷ 0 ∷ 1 ∷ [])) 0
    (with_sets (drawn0 empty_state) (0 ∷ 4 ∷ 2 ∷ []) []) (given step.drew)
    ∷ moved h3 (with_sets (drawn0 empty_state) (0 ∷ 4 ∷ 2 ∷ []) []) 0
    (with_sets empty_state (4 ∷ 4 ∷ 3 ∷ []) (4 ∷ 0 ∷ 1 ∷ [])) (given step.dropped)
    ∷ pressed true h1 (kept_at h1 pushed0) 0 (kept_at h1 pushed0) (refused already_so 0)
    ∷ pressed true h1 (astray h1 pushed0 empty_state) 0 (astray h1 pushed0 empty_state) (refused foreign_sets 0)
    ∷ judged h1 (astray h1 pushed0 empty_state) First 100 (unanswered foreign_sets 0)
    ∷ judged h1 (astray h1 pushed0 empty_state) Second 100 (unanswered foreign_sets 0)
    ∷ judged h1 (with_sets pushed0 (4 ∷ 4 ∷ 3 ∷ []) (0 ∷ 0 ∷ 1 ∷ [])) First 100 (unanswered foreign_sets 0)
    ∷ judged h1 (astray h1 pushed_both empty_state) First 100 (unanswered state_beyond_board 0)
    ∷ moved h1 (astray h1 pushed0 empty_state) 0 (astray h1 pushed0 empty_state) (refused foreign_sets 0)
    ∷ ran h1 (astray h1 pushed0 empty_state) (lent 2) (unrun foreign_sets 0 (astray h1 pushed0 empty_state) (lent 2))
    ∷ judged h0 (astray h0 empty_state pushed0) First 100 (unanswered no_such_winding 0)
    ∷ []

abbrev pub divided : List Row
divided =
    says h4wound empty_state First (dead 0)
    ∷ says h4wound_wired empty_state First (dead 2)
    ∷ says h1 empty_state First (dead 1)
    ∷ says h1 pushed0 First live
    ∷ says on_poles empty_state First live
    ∷ says h5 pushed_both Second live
    ∷ says h4wired empty_state First shunted
    ∷ says h6 empty_state First shunted
    ∷ dividing h4wound_wired empty_state First 0 false
    ∷ dividing h4wound_wired empty_state First 2 true
    ∷ dividing h4wired empty_state First 2 true
    ∷ dividing h6 empty_state First 2 false
    ∷ dividing h6 empty_state First 1 false
    ∷ dividing h1 empty_state First 1 true
    ∷ tells (started 1 h1) (kept_at h1 empty_state) First (refused broken_board 0)
    ∷ tells h1 (astray h1 pushed_both empty_state) First (refused state_beyond_board 0)
    ∷ tells h1 (astray h1 pushed0 empty_state) Second (refused foreign_sets 0)
    ∷ tells h1 (kept_at h1 empty_state) Second (refused no_such_winding 0)
    ∷ checked (started 1 h1) (kept_at h1 empty_state) First 3 (refused broken_board 0)
    ∷ checked h1 (astray h1 pushed_both empty_state) First 3 (refused state_beyond_board 0)
    ∷ checked h1 (astray h1 pushed0 empty_state) First 3 (refused foreign_sets 0)
    ∷ checked h1 (kept_at h1 empty_state) Second 3 (refused no_such_winding 0)
    ∷ checked h1 (kept_at h1 empty_state) First 3 (refused terminal_beyond 0)
    ∷ []

-- button 0 is pushed, then button 1
abbrev pub ignored : List Row
ignored =
    prints_at_every_w h5_file (1 ∷ 3 ∷ []) h5_lines
    ∷ []

-- T 5, relay 0's winding on 2-1 fed by a wire 0-2, relay 1's on 4-1 by an upper contact of relay 0 on 0-3 and its own
-- lower contact on 3-4
abbrev pub pulsing : Board
pulsing =
    board 5 2 0
    (part Wire 0 2 ∷ part (Regular 0) 2 1 ∷ part (Upper 0) 0 3 ∷ part (Lower 1) 3 4 ∷ part (Regular 1) 4 1 ∷ [])

abbrev pub pulsing_file : List ℕ
pulsing_file =
    5 ∷ 2 ∷ 0 ∷ 5 ∷ 0 ∷ 0 ∷ 2 ∷ 4 ∷ 2 ∷ 1 ∷ 0 ∷ 1 ∷ 0 ∷ 3 ∷ 0 ∷ 2 ∷ 3 ∷ 4 ∷ 1 ∷ 4 ∷ 4 ∷ 1 ∷ 1 ∷ []

-- the last prints "0 buzz 3 1": all moves made
abbrev pub met : List Row
met =
    buzzed h3 empty_state (lent 2) 0 2 empty_state (128 ∷ 0 ∷ [])
    ∷ runs h3 empty_state (lent 1) spent 1 (drawn0 empty_state) 0 (128 ∷ [])
    ∷ buzzed pulsing empty_state (lent 4) 1 2 (drawn0 empty_state) (128 ∷ 129 ∷ 1 ∷ 7 ∷ [])
    ∷ buzzed pulsing empty_state (lent 3) 1 2 (drawn0 empty_state) (128 ∷ 129 ∷ 1 ∷ [])
    ∷ runs pulsing empty_state (lent 2) spent 2 (drawn1 (drawn0 empty_state)) 1 (128 ∷ 129 ∷ [])
    ∷ prints (pulsing_file ++ (100 ∷ [])) (48 ∷ 32 ∷ 98 ∷ 117 ∷ 122 ∷ 122 ∷ 32 ∷ 51 ∷ 32 ∷ 49 ∷ 10 ∷ [])
    ∷ []

-- T 4, lower contact of relay 1 on 0-2, relay 0's winding on 2-1, lower contact of relay 0 on 0-3, relay 1's on 3-1
abbrev pub crossed : Board
crossed = board 4 2 0 (part (Lower 1) 0 2 ∷ part (Regular 0) 2 1 ∷ part (Lower 0) 0 3 ∷ part (Regular 1) 3 1 ∷ [])

-- on both boards either relay can draw at the start; on the second, after either both rest, and a run shows the end at
-- which the lower relay moved first
abbrev pub ordered : List Row
ordered =
    moves pair empty_state 0 (drawn0 empty_state) step.drew
    ∷ moves pair empty_state 1 (drawn1 empty_state) step.drew
    ∷ moves crossed empty_state 0 (drawn0 empty_state) step.drew
    ∷ moves crossed empty_state 1 (drawn1 empty_state) step.drew
    ∷ moves crossed (drawn0 empty_state) 0 (drawn0 empty_state) step.rests
    ∷ moves crossed (drawn0 empty_state) 1 (drawn0 empty_state) step.rests
    ∷ moves crossed (drawn1 empty_state) 0 (drawn1 empty_state) step.rests
    ∷ moves crossed (drawn1 empty_state) 1 (drawn1 empty_state) step.rests
    ∷ runs crossed empty_state (lent 2) idle 1 (drawn0 empty_state) no_relay (128 ∷ 7 ∷ [])
    ∷ []

-- T 3, buttons 0 and 1 on 0-2, relay 0's winding on 2-1
abbrev pub two_feeds : Board
two_feeds = board 3 1 2 (part (Button 0) 0 2 ∷ part (Button 1) 0 2 ∷ part (Regular 0) 2 1 ∷ [])

abbrev pub thirteen : Board
thirteen = board 2 0 13 []

abbrev pub all_set : List Row
all_set =
    reports h0 0 (figures 1 1 0 0 0 0 0 0)
    ∷ reports h3 5 (figures 1 0 1 0 0 2 2 0)
    ∷ reports h3 2 (figures 1 0 1 0 0 2 2 0)
    ∷ reports h3 1 (figures 1 0 0 0 1 1 1 0)
    ∷ reports h5 2 (figures 4 3 0 1 0 1 1 1)
    ∷ reports h5 0 (figures 4 2 0 1 1 0 0 0)
    ∷ reports two_feeds 1 (figures 4 4 0 0 0 3 1 1)
    ∷ reports taken_over 65536 (figures 1 1 0 0 0 1 1 0)
    ∷ reported (started 1 h1) 65537 no_figures (refused broken_board 0)
    ∷ reported thirteen 65537 no_figures (refused log_too_long 0)
    ∷ reported thirteen 65536 no_figures (refused too_many_buttons 0)
    ∷ []

abbrev pub Starred : Type 0
Starred =
    All RowHolds (starred ++ besides ++ marks ++ shunts ++ kept ++ divided ++ ignored ++ met ++ ordered ++ all_set)
