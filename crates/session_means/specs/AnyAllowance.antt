-- Request A7: "A session's W is still read, then ignored." So two sessions with the same board and events and each an
-- accepted W, neither of them too long, print the same lines, places apart. A place counts the bytes before it, those
-- of W among them: what ends both sessions stands as far from the end of the one as of the other.
--     session_of f w es     the session of the board file f, the allowance w and the events es. Of an allowance only
--                           these bytes are accepted (`number_read_written` of demand 2)
--     SameLines s t ls ms   the lines ls, printed by s, and ms, printed by t, are the same, places apart:
--       none                there are none
--       both                a line that is the same in both, and then lines that are so
--       closed              the line that ends both: by the same number, at places that are as far from the end
--     AnyAllowance          so it is of any two such sessions
use Rattle.std.specs.Prelude.{ℕ, ◌+◌, ◌≤◌, ◌≡◌, List, [], ◌∷◌, ◌++◌, length}
use Rattle.refusals.specs.Outcomes.{given}
use Rattle.number.specs.Numbers.{current_width, number_bytes}
use Rattle.board.specs.declared.Board.{Board}
use Rattle.board_reader.specs.Editions.{current_edition}
use Rattle.board_reader.specs.Reading.{longest_input, reading}
use Rattle.lines.specs.Lines.{Line, closing}
use Rattle.session.specs.Sessions.{session_lines}

abbrev pub session_of : List ℕ → ℕ → List ℕ → List ℕ
session_of f w es = f ++ (number_bytes w ++ es)

pub data SameLines (s t : List ℕ) : List Line → List Line → Type 0 where
  none : SameLines s t [] []
  both : (l : Line) {ls ms : List Line} → SameLines s t ls ms → SameLines s t (l ∷ ls) (l ∷ ms)
  closed : (n p q : ℕ) → p + length t ≡ q + length s → SameLines s t (closing n p ∷ []) (closing n q ∷ [])

abbrev pub AnyAllowance : Type 0
AnyAllowance =
    (f es : List ℕ) (b : Board) (w x : ℕ)
    → let s = session_of f w es in
    let t = session_of f x es in
    reading current_edition f ≡ (b, given (length f))
    → w ≤ current_width.largest
    → x ≤ current_width.largest
    → length s ≤ longest_input
    → length t ≤ longest_input
    → SameLines s t (session_lines current_edition s) (session_lines current_edition t)
