-- The bytes after a board, stated over two calls of `board_reader::read`. Rule book: "Reading also returns the place
-- just after the board; bytes there aren't judged."
--     BytesAfter    a board that is accepted up to place n ends within the input. Every input that is short enough and
--                   begins with the same n bytes gives the same board, and the same place
use Rattle.std.specs.Prelude.{ℕ, ◌≤◌, ◌≡◌, List, length, take}
use Rattle.refusals.specs.Outcomes.{given, told}
use Rattle.board_reader.specs.declared.BoardRead.{BoardRead}
use Rattle.board_reader.specs.Reading.{longest_input, Reads}

abbrev pub BytesAfter : Type 0
BytesAfter =
    (s s' : List ℕ) (r r' : BoardRead) (n : ℕ)
    → Reads s r
    → told r.answer ≡ given n
    → (n ≤ length s)
    × (length s' ≤ longest_input
    → take n s' ≡ take n s
    → Reads s' r'
    → (r'.board ≡ r.board) × (told r'.answer ≡ given n))
