-- Demand 1, in the user's own words, and what states each sentence:
--     "Give the simulator anything: a cut board file, a wrong state, a relay that isn't there. Every call comes back."
--         `comes_back`: whatever a call is given, its promise allows exactly one answer; that the call ends, the prover
--         shows of every function before it builds it. A cut board file is line 1 of `reads`, a wrong state 14 of each
--         call on a state, a relay that isn't there `eleven` and `eleven_moved`
--     "What it can't use it refuses by number, in a stated order,"
--         `in_order`: the first line that holds, of each call's lines in the stated order. What stands behind some of
--         these lines: `forms`, a number that is cut, too long, too large or not shortest; `fifteen`, a board that
--         breaks a rule; `fourteen`, a state with what the board lacks; `eighteen`, kept sets that don't belong to
--         board and state; `eleven`, a winding that isn't there; `nineteen`, a terminal handed in that isn't;
--         `twenty`, more buttons than a report takes
--     "with the state as given and no byte of a lent log or output buffer written."
--         `as_lent`
-- The words:
--     `number_lines` and the like calls, since request A10: 15, 14, 18, 13, 20, 11, 19, 7, 12, 16, those that apply.
--                                 Each call is defined by its lines in that order, each a test that must hold and the
--                                 number for no; `usable_lines` are the three that every call on a board and a state
--                                 with kept sets has first. `first_no` of them is the first whose test fails, by its
--                                 number at place 0, or nothing
--     word_of l                   the word of the run that a line tells of, or what refused it
--     InOrder                     what stands against each call is the first of its lines whose test fails; a file is
--                                 refused exactly by the first line of the table that holds, from left to right, and a
--                                 number by itself exactly by its form (1, 2); 11, 14, 15, 18, 19 and 20 are given
--                                 exactly if their lines hold
--     AsLent                      "A refused read returns number, place and the empty board (T 2, else 0). A refused
--                                 call returns the number, place 0 and the state it was given, if it takes one; a
--                                 refused run also 0 moves and relay 255, a refused judgement no verdict, effort 0 and
--                                 length 0, a refused write 0 bytes written. Log and output buffer stay as lent." And
--                                 with the state its kept sets (request A5); of a refused run 0 moves up to an earlier
--                                 state and 0 between (request A8); and a refused report is all zeros (request A10)
--     EveryCallComesBack          the demand
use Rattle.std.specs.Prelude.{ℕ, ◌≡◌, Bool, List, [], Result}
use Rattle.refusals.specs.declared.Refusal.{Refusal}
use Rattle.refusals.specs.Outcomes.{Outcome, refused, told, told_as}
use Rattle.refusals.specs.Order.{first_no, against}
use Rattle.number.specs.Numbers.{number_lines, WritesNumber}
use Rattle.number.specs.FormExactly.{FormExactly}
use Rattle.board.specs.declared.Board.{Board}
use Rattle.board.specs.Parts.{empty_board}
use Rattle.board.specs.BreaksNoRule.{FifteenExactly}
use Rattle.state.specs.Fourteen.{FourteenExactly}
use Rattle.kept.specs.declared.Kept.{Kept}
use Rattle.kept.specs.Kept.{usable_lines}
use Rattle.kept.specs.Eighteen.{EighteenExactly}
use Rattle.presses.specs.declared.Pressed.{Pressed}
use Rattle.presses.specs.Presses.{push_lines, release_lines, Pushes, Releases}
use Rattle.board_reader.specs.declared.BoardRead.{BoardRead}
use Rattle.board_reader.specs.Reading.{Reads}
use Rattle.board_writer.specs.Writing.{write_lines, bytes_written, Writes}
use Rattle.file_means.specs.FileRefusals.{FileRefused}
use Rattle.search.specs.declared.Verdict.{Verdict}
use Rattle.search.specs.Verdicts.{places, told_finding}
use Rattle.judge.specs.declared.Which.{Which}
use Rattle.judge.specs.Judging.{judge_lines, Judges}
use Rattle.divide.specs.declared.Judgement.{Judgement}
use Rattle.divide.specs.AtOnce.{check_lines, told_judgement, JudgesAtOnce, ChecksTerminal}
use Rattle.judge_means.specs.Eleven.{ElevenExactly}
use Rattle.judge_means.specs.Dividing.{NineteenExactly}
use Rattle.moves.specs.declared.Moved.{Moved}
use Rattle.moves.specs.Moving.{move_lines, told_move_answer, Moves}
use Rattle.moves_means.specs.SingleMoves.{MoveElevenExactly}
use Rattle.runs.specs.declared.Ran.{Ran}
use Rattle.runs.specs.Runs.{no_relay, Ending}
use Rattle.runs.specs.Running.{run_lines, told_ending, Runs}
use Rattle.report.specs.declared.Reported.{Reported}
use Rattle.report.specs.Reporting.{report_lines, Reports}
use Rattle.report_means.specs.AllSettings.{TwentyExactly, RefusedZeros}
use Rattle.lines.specs.declared.Line.{Line}
use Rattle.lines.specs.Lines as lines
use Rattle.lines.specs.Lines.{event, closing, line_lines, told_line, WritesLine}
use Rattle.events.specs.declared.Event.{Event}
use Rattle.events.specs.declared.Shown.{Shown}
use Rattle.events.specs.Events.{made_lines, RunLine, EventLine}
use Rattle.session.specs.declared.Session.{Session}
use Rattle.session.specs.declared.Handed.{Handed}
use Rattle.session.specs.HandingOut.{told_hand_out, NextLine}
use Rattle.session.specs.Filling.{NextLines}
use Rattle.demands.specs.OneAnswer.{OneAnswer}

abbrev pub word_of : lines.Line → Outcome Ending
word_of (event e o m d) = o
word_of (closing n p) = refused n p

pub record InOrder : Type 0 where
  pub reads : FileRefused
  pub forms : FormExactly
  pub eleven : ElevenExactly
  pub eleven_moved : MoveElevenExactly
  pub nineteen : NineteenExactly
  pub fourteen : FourteenExactly
  pub eighteen : EighteenExactly
  pub fifteen : FifteenExactly
  pub twenty : TwentyExactly
  pub writes_number : (v : ℕ) (out out' : List ℕ) (at : ℕ) (x : Result ℕ Refusal)
      → WritesNumber v out at x out'
      → against (told x) ≡ first_no (number_lines v out at)
  pub writes_line : (l : Line) (out out' : List ℕ) (x : Result ℕ Refusal)
      → WritesLine l out x out'
      → against (told x) ≡ first_no (line_lines out)
  pub writes : (b : Board) (out out' : List ℕ) (w : Result ℕ Refusal)
      → Writes b out w out'
      → against (told w) ≡ first_no (write_lines b out)
  pub pushes : (b : Board) (h : Kept) (n : ℕ) (x : Pressed)
      → Pushes b h n x
      → told x.answer ≡ first_no (push_lines b h n)
  pub releases : (b : Board) (h : Kept) (n : ℕ) (x : Pressed)
      → Releases b h n x
      → told x.answer ≡ first_no (release_lines b h n)
  pub judges : (b : Board) (h : Kept) (r : ℕ) (k : Which) (w : ℕ) (v : Verdict)
      → Judges b h r k w v
      → against (told_as told_finding v.finding) ≡ first_no (judge_lines b h r k)
  pub judges_at_once : (b : Board) (h : Kept) (r : ℕ) (k : Which) (a : Result Judgement Refusal)
      → JudgesAtOnce b h r k a
      → against (told_as told_judgement a) ≡ first_no (judge_lines b h r k)
  pub checks : (b : Board) (h : Kept) (r : ℕ) (k : Which) (x : ℕ) (a : Result Bool Refusal)
      → ChecksTerminal b h r k x a
      → against (told a) ≡ first_no (check_lines b h r k x)
  pub moves : (b : Board) (h : Kept) (r : ℕ) (a : Moved)
      → Moves b h r a
      → against (told_move_answer a.answer) ≡ first_no (move_lines b h r)
  pub runs : (b : Board) (h : Kept) (log log' : List ℕ) (a : Ran)
      → Runs b h log a log'
      → against (told_ending a.word) ≡ first_no (run_lines b h log)
  pub reports : (b : Board) (n : ℕ) (r : Reported)
      → Reports b n r
      → told r.answer ≡ first_no (report_lines b n)
  -- a session's log of 4,096 is never too long (13), and the run after a push or release is never refused
  pub tells_run : (b : Board) (e : ℕ) (h : Kept) (x : Shown)
      → RunLine b e h x
      → against (word_of (told_line x.line)) ≡ first_no (usable_lines b h)
  pub tells_event : (b : Board) (e : ℕ) (h : Kept) (v : Event) (x : Shown)
      → EventLine b e h v x
      → against (word_of (told_line x.line)) ≡ first_no (made_lines b h v)
  pub hands : (z : Session) (s out out' : List ℕ) (r : Handed)
      → NextLine z s out r out'
      → against (told_hand_out r.answer) ≡ first_no (line_lines out)
  pub hands_lines : (z : Session) (s out out' : List ℕ) (r : Handed)
      → NextLines z s out r out'
      → against (told_hand_out r.answer) ≡ first_no (line_lines out)

pub record AsLent : Type 0 where
  pub reads : (s : List ℕ) (r : BoardRead) (n p : ℕ)
      → Reads s r
      → told r.answer ≡ refused n p
      → r.board ≡ empty_board
  pub writes_number : (v : ℕ) (out out' : List ℕ) (at : ℕ) (x : Result ℕ Refusal) (n p : ℕ)
      → WritesNumber v out at x out'
      → told x ≡ refused n p
      → out' ≡ out
  pub writes_line : (l : Line) (out out' : List ℕ) (x : Result ℕ Refusal) (n p : ℕ)
      → WritesLine l out x out'
      → told x ≡ refused n p
      → out' ≡ out
  pub writes : (b : Board) (out out' : List ℕ) (w : Result ℕ Refusal) (n p : ℕ)
      → Writes b out w out'
      → told w ≡ refused n p
      → (out' ≡ out) × (bytes_written w ≡ 0)
  pub pushes : (b : Board) (h : Kept) (k : ℕ) (x : Pressed) (n p : ℕ)
      → Pushes b h k x
      → told x.answer ≡ refused n p
      → x.kept ≡ h
  pub releases : (b : Board) (h : Kept) (k : ℕ) (x : Pressed) (n p : ℕ)
      → Releases b h k x
      → told x.answer ≡ refused n p
      → x.kept ≡ h
  pub judges : (b : Board) (h : Kept) (r : ℕ) (k : Which) (w : ℕ) (v : Verdict) (n p : ℕ)
      → Judges b h r k w v
      → told_as told_finding v.finding ≡ refused n p
      → (v.effort ≡ 0) × ((v.length ≡ 0) × (v.terminals ≡ places []))
  pub moves : (b : Board) (h : Kept) (r : ℕ) (a : Moved) (n p : ℕ)
      → Moves b h r a
      → told_move_answer a.answer ≡ refused n p
      → a.kept ≡ h
  pub runs : (b : Board) (h : Kept) (log log' : List ℕ) (a : Ran) (n p : ℕ)
      → Runs b h log a log'
      → told_ending a.word ≡ refused n p
      → (a.kept ≡ h)
      × ((a.moves ≡ 0) × ((a.relay ≡ no_relay) × ((a.earlier ≡ 0) × ((a.between ≡ 0) × (log' ≡ log)))))
  pub reports : RefusedZeros
  pub tells_run : (b : Board) (e : ℕ) (h : Kept) (x : Shown) (n p : ℕ)
      → RunLine b e h x
      → word_of (told_line x.line) ≡ refused n p
      → (told_line x.line ≡ event e (refused n p) 0 h.state.drawn) × (x.kept ≡ h)
  pub tells_event : (b : Board) (e : ℕ) (h : Kept) (v : Event) (x : Shown) (n p : ℕ)
      → EventLine b e h v x
      → word_of (told_line x.line) ≡ refused n p
      → (told_line x.line ≡ event e (refused n p) 0 h.state.drawn) × (x.kept ≡ h)
  pub hands : (z : Session) (s out out' : List ℕ) (r : Handed) (n p : ℕ)
      → NextLine z s out r out'
      → told_hand_out r.answer ≡ refused n p
      → (r.session ≡ z) × (out' ≡ out)
  pub hands_lines : (z : Session) (s out out' : List ℕ) (r : Handed) (n p : ℕ)
      → NextLines z s out r out'
      → told_hand_out r.answer ≡ refused n p
      → (r.session ≡ z) × (out' ≡ out)

pub record EveryCallComesBack : Type 0 where
  pub comes_back : OneAnswer
  pub in_order : InOrder
  pub as_lent : AsLent
