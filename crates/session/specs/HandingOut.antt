-- Handing out a session's lines, one at a time, into a lent buffer. "Log and output buffer stay as lent"; "Written
-- bytes begin the buffer; the rest stays."
--     HandOut                    so many bytes of a line or of lines, or none
--     HandedAhead                what is ahead after a call, the answer, and the buffer afterwards
--     Handed                     the session to carry on, the answer, and the buffer afterwards
--     carrying z x               what is handed out with the session z to carry on, where x is handed on
--     handed_by x out            what is handed on where x comes next
--     line_handed b a s out      what is handed on of the session with the board b and a ahead, by the current edition:
--                                16 if the longest line has no room in the buffer, and then a as given
--     next_line z s out          the call
--     told_out                   so many bytes, or none, in these words
--     told_hand_out              the answer's cases in these words and the rule book's numbers
--     told_line_handed a r o     the answer r of the inner function `hand_line` where a is ahead, with the buffer o
--                                afterwards
--     told_handed r o            the answer r, with the buffer o afterwards
--     NextLine z s out r out'    promise: `next_line` of session z on the input s, into the buffer `out`, answers r and
--                                leaves the buffer out'
use Rattle.std.specs.Prelude.{ℕ, ◌≡◌, List, ◌++◌, length, drop, Result, Option, Some, None}
use Rattle.refusals.specs.declared.Refusal.{Refusal}
use Rattle.refusals.specs.Refusals.{number_of}
use Rattle.refusals.specs.Outcomes.{Outcome, given, refused, told_as}
use Rattle.refusals.specs.Order.{first_no, answering}
use Rattle.board.specs.declared.Board.{Board}
use Rattle.board_reader.specs.Editions.{current_edition}
use Rattle.lines.specs.Lines.{line_text, line_lines}
use Rattle.session.specs.declared.Session as code-session
use Rattle.session.specs.declared.Handed as code-handed
use Rattle.session.specs.declared.fill.HandedLine.{HandedLine}
use Rattle.session.specs.Carried.{Ahead, Session, onward, Coming, line, no_line, next_of, told_ahead}
use Rattle.session.specs.Carried.{told_session}

pub data HandOut : Type 0 where
  written : ℕ → HandOut
  nothing : HandOut

pub record HandedAhead : Type 0 where
  pub ahead : Ahead
  pub answer : Outcome HandOut
  pub out : List ℕ

pub record Handed : Type 0 where
  pub session : Session
  pub answer : Outcome HandOut
  pub out : List ℕ

abbrev pub carrying : Session → HandedAhead → Handed
carrying z x = record { session = onward z x.ahead; answer = x.answer; out = x.out }

unfoldable pub handed_by : Ahead × Coming → List ℕ → HandedAhead
handed_by (a, line l) out =
    record {
      ahead = a;
      answer = given (written (length (line_text l)));
      out = line_text l ++ drop (length (line_text l)) out;
    }
handed_by (a, no_line) out = record { ahead = a; answer = given nothing; out = out }

unfoldable pub line_handed : Board → Ahead → List ℕ → List ℕ → HandedAhead
line_handed b a s out =
    answering (first_no (line_lines out))
    (λ n p. record { ahead = a; answer = refused n p; out = out })
    (λ u. handed_by (next_of current_edition b a s) out)

unfoldable pub next_line : Session → List ℕ → List ℕ → Handed
next_line z s out = carrying z (line_handed z.board z.ahead s out)

abbrev pub told_out : Option ℕ → HandOut
told_out (Some n) = written n
told_out None = nothing

abbrev pub told_hand_out : Result (Option ℕ) Refusal → Outcome HandOut
told_hand_out = told_as told_out

abbrev pub told_line_handed : Ahead → Result (Option HandedLine) Refusal → List ℕ → HandedAhead
told_line_handed a (Result.Ok (Some l)) o =
    record { ahead = told_ahead l.ahead; answer = given (written l.length); out = o }
told_line_handed a (Result.Ok None) o = record { ahead = a; answer = given nothing; out = o }
told_line_handed a (Result.Err r) o = record { ahead = a; answer = refused (number_of r.no) r.place; out = o }

abbrev pub told_handed : code-handed.Handed → List ℕ → Handed
told_handed r o = record { session = told_session r.session; answer = told_hand_out r.answer; out = o }

abbrev pub NextLine : code-session.Session → List ℕ → List ℕ → code-handed.Handed → List ℕ → Type 0
NextLine z s out r out' = told_handed r out' ≡ next_line (told_session z) s out
