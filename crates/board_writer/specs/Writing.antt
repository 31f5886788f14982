-- Writing a board. Rule book: "Calls: 15, .., 16, those that apply"; "a refused write 0 bytes written. .. output buffer
-- stay as lent"; "Written bytes begin the buffer; the rest stays."
--     write_lines b out      the lines of writing board b into the buffer `out`: 15, 16
--     writing b out          what writing answers, the count of bytes or the refusal, and the buffer afterwards
--     bytes_written w        how many bytes an answer says were written: none where it is a refusal
--     Writes b out r out'    promise: `write` of board b into the buffer `out` answers r, and leaves the buffer out'
use Rattle.std.specs.Prelude.{ℕ, ◌≡◌, List, [], ◌∷◌, ◌++◌, leb, length, drop, Result}
use Rattle.refusals.specs.Outcomes.{Outcome, given, refused, told}
use Rattle.refusals.specs.declared.Refusal.{Refusal}
use Rattle.refusals.specs.Refusals.{broken_board, buffer_too_short}
use Rattle.refusals.specs.Order.{Order, first_no, answering}
use Rattle.board.specs.declared.Board.{Board}
use Rattle.board.specs.Rules.{board_fine}
use Rattle.board_writer.specs.File.{board_bytes}

abbrev pub write_lines : Board → List ℕ → Order
write_lines b out = (board_fine b, broken_board) ∷ (leb (length (board_bytes b)) (length out), buffer_too_short) ∷ []

unfoldable pub writing : Board → List ℕ → Outcome ℕ × List ℕ
writing b out =
    answering (first_no (write_lines b out)) (λ n p. (refused n p, out))
    (λ u. (given (length (board_bytes b)), board_bytes b ++ drop (length (board_bytes b)) out))

abbrev pub bytes_written : Result ℕ Refusal → ℕ
bytes_written (Result.Ok n) = n
bytes_written (Result.Err r) = 0

abbrev pub Writes : Board → List ℕ → Result ℕ Refusal → List ℕ → Type 0
Writes b out r out' = ◌≡◌ {A = Outcome ℕ × List ℕ} (told r, out') (writing b out)
