-- The bytes of a board file. Rule book: "The file: T, R, B, C, then each part as its kind and fields in the
-- table's order."
--     row_bytes bytes xs   the bytes of each of xs, one after the other
--     numbers_bytes vs     numbers one after the other
--     part_bytes p         a part's kind and its fields
--     parts_bytes ps       parts one after the other
--     counts_bytes c       T, R, B and C
--     board_bytes b        a board's file
--     longest_counts       no counts take more bytes: four numbers, each in the longest form
--     longest_part         no part takes more bytes: its kind and the most fields, each in the longest form
--     longest_file         no board's file is longer: 5 bytes of counts and 256 parts of 4
use Rattle.std.specs.Prelude.{ℕ, ◌+◌, ◌*◌, List, [], ◌∷◌, ◌++◌}
use Rattle.number.specs.Numbers.{current_width, number_bytes}
use Rattle.kinds.specs.Kinds.{kind_number, most_fields}
use Rattle.board.specs.declared.Part.{Part}
use Rattle.board.specs.declared.Counts.{Counts}
use Rattle.board.specs.declared.Board.{Board}
use Rattle.board.specs.Parts.{fields_of, parts_of}

unfoldable pub row_bytes : {A : Type 0} → (A → List ℕ) → List A → List ℕ
row_bytes bytes [] = []
row_bytes bytes (x ∷ xs) = bytes x ++ row_bytes bytes xs

abbrev pub numbers_bytes : List ℕ → List ℕ
numbers_bytes = row_bytes number_bytes

unfoldable pub part_bytes : Part → List ℕ
part_bytes p = numbers_bytes (kind_number p.kind ∷ fields_of p)

abbrev pub parts_bytes : List Part → List ℕ
parts_bytes = row_bytes part_bytes

unfoldable pub counts_bytes : Counts → List ℕ
counts_bytes c = numbers_bytes (c.terminals ∷ c.relays ∷ c.buttons ∷ c.parts ∷ [])

unfoldable pub board_bytes : Board → List ℕ
board_bytes b = counts_bytes b.counts ++ parts_bytes (parts_of b)

abbrev pub longest_counts : ℕ
longest_counts = 4 * current_width.longest

abbrev pub longest_part : ℕ
longest_part = (1 + most_fields) * current_width.longest

abbrev pub longest_file : ℕ
longest_file = 1029
