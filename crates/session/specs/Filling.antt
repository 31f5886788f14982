-- Filling a lent buffer with the next lines of a session, as many as fit: a line is handed out as long as the longest
-- line has room in what is left of the buffer. "Log and output buffer stay as lent"; "Written bytes begin the buffer;
-- the rest stays."
--     fits_on x go              the lines from x on, where x comes next: `go` has the lines after a line, and what is
--                               ahead after them
--     fitting k b a s n         the next lines of the session with the board b and a ahead, on the input s, that n
--                               bytes have room for, and what is ahead after them; of at most k lines
--     filled_by x out           what is handed on where x are the lines that fit: their texts one after the other
--     lines_handed b a s out    what is handed on of that session: 16 if the longest line has no room in the buffer,
--                               and then a as given. A line has at least one byte, so there are no more lines than
--                               bytes
--     next_lines z s out        the call
--     NextLines z s out r out'  promise: `next_lines` of session z on the input s, into the buffer `out`, answers r and
--                               leaves the buffer out'
--     summed n o                the answer after lines of n bytes, where the next call came to o; only for the inner
--                               function `sum_up`
use Rattle.std.specs.Prelude.{ℕ, zero, suc, ◌-◌, ◌≡◌, cond, List, [], ◌∷◌, ◌++◌, leb, length, drop}
use Rattle.refusals.specs.Outcomes.{Outcome, given, refused}
use Rattle.refusals.specs.Order.{first_no, answering}
use Rattle.board.specs.declared.Board.{Board}
use Rattle.board_reader.specs.Editions.{current_edition}
use Rattle.lines.specs.Lines.{Line, longest_line, line_text, line_lines}
use Rattle.session.specs.declared.Session as code-session
use Rattle.session.specs.declared.Handed as code-handed
use Rattle.session.specs.Sessions.{line_texts, printed}
use Rattle.session.specs.Carried.{Ahead, Session, Coming, line, no_line, next_of, told_session}
use Rattle.session.specs.HandingOut.{HandOut, written, nothing, HandedAhead, Handed, carrying, told_handed}

abbrev pub fits_on : Ahead × Coming → (Ahead → Line → Ahead × List Line) → Ahead × List Line
fits_on (y, line l) go = ((go y l).0, l ∷ (go y l).1)
fits_on (y, no_line) go = (y, [])

unfoldable pub fitting : ℕ → Board → Ahead → List ℕ → ℕ → Ahead × List Line
fitting zero b a s n = (a, [])
fitting (suc k) b a s n =
    cond (leb longest_line n)
    (fits_on (next_of current_edition b a s) (λ y l. fitting k b y s (n - length (line_text l))))
    (a, [])

unfoldable pub filled_by : Ahead × List Line → List ℕ → HandedAhead
filled_by (a, []) out = record { ahead = a; answer = given nothing; out = out }
filled_by (a, l ∷ ls) out =
    let text = printed (line_texts (l ∷ ls)) in
    record { ahead = a; answer = given (written (length text)); out = text ++ drop (length text) out }

unfoldable pub lines_handed : Board → Ahead → List ℕ → List ℕ → HandedAhead
lines_handed b a s out =
    answering (first_no (line_lines out))
    (λ n p. record { ahead = a; answer = refused n p; out = out })
    (λ u. filled_by (fitting (length out) b a s (length out)) out)

unfoldable pub next_lines : Session → List ℕ → List ℕ → Handed
next_lines z s out = carrying z (lines_handed z.board z.ahead s out)

abbrev pub NextLines : code-session.Session → List ℕ → List ℕ → code-handed.Handed → List ℕ → Type 0
NextLines z s out r out' = told_handed r out' ≡ next_lines (told_session z) s out

abbrev pub summed : ℕ → Outcome HandOut → Outcome HandOut
summed zero o = o
summed (suc n) o = given (written (suc n))
