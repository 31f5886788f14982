-- The round trip, stated over the calls `board_writer::write` and `board_reader::read`: whatever they answer under
-- their promises. Demand 2: "write then read gives the board, read then write gives the bytes read."
--     WriteThenRead    a file that was written is within the longest input. A board that was written and read again,
--                      with any bytes behind it, is the same board as `board::same` compares them, with the same start,
--                      and reading stops where writing stopped
--     RestStays        "Written bytes begin the buffer; the rest stays": behind the bytes that were written, none where
--                      the write is refused, the buffer is as lent. `WriteThenRead` says that they are the file's
--     ReadThenWrite    a board that was read and written again is never refused by 15, and its bytes are those that
--                      were read
-- A slice's bytes are below 256 (`Bytes`) and an array of parts has 256 places; lists do not say so by themselves.
use Rattle.std.specs.Prelude.{ℕ, ◌+◌, ◌≤◌, ◌≡◌, true, List, ◌++◌, length, take, drop, Result}
use Rattle.refusals.specs.Outcomes.{given, told}
use Rattle.number.specs.Numbers.{Bytes}
use Rattle.board.specs.declared.Board.{Board}
use Rattle.board.specs.Parts.{most_parts}
use Rattle.board.specs.SameExactly.{Same}
use Rattle.board.specs.Rules.{board_fine}
use Rattle.board_reader.specs.Reading.{longest_input, Reads}
use Rattle.board_reader.specs.declared.BoardRead.{BoardRead}
use Rattle.board_writer.specs.Writing.{bytes_written, Writes}
use Rattle.refusals.specs.declared.Refusal.{Refusal}

abbrev pub WriteThenRead : Type 0
WriteThenRead =
    (b : Board) (out out' more : List ℕ) (n : ℕ) (w : Result ℕ Refusal) (r : BoardRead)
    → length b.parts ≡ most_parts
    → Writes b out w out'
    → told w ≡ given n
    → (n ≤ longest_input)
    × (n + length more ≤ longest_input
    → Reads (take n out' ++ more) r
    → (told r.answer ≡ given n)
    × Same b r.board
    × (b.start ≡ r.board.start))

abbrev pub RestStays : Type 0
RestStays =
    (b : Board) (out out' : List ℕ) (w : Result ℕ Refusal)
    → Writes b out w out'
    → drop (bytes_written w) out' ≡ drop (bytes_written w) out

abbrev pub ReadThenWrite : Type 0
ReadThenWrite =
    (s out out' : List ℕ) (n : ℕ) (r : BoardRead) (w : Result ℕ Refusal)
    → Bytes s
    → Reads s r
    → told r.answer ≡ given n
    → Writes r.board out w out'
    → (board_fine r.board ≡ true) × (n ≤ length out → (told w ≡ given n) × (take n out' ≡ take n s))
