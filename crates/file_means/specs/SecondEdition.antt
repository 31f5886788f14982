-- Request A2, the second edition: "First-edition files read as before; a first-edition reader must turn the new file
-- away by 4 and never show a wrong start." Stated over the definition of reading, with kinds 0 to 6 as before that
-- request, and by the rule book as it stands. A first-edition file is one that the reading with kinds 0 to 6 accepts.
--     has_mark ps         one of the parts ps is a mark
--     before_mark ps      those of the parts ps that come before the first mark
--     first_mark_at b     the place in the file of board b at which the kind of its first mark stands; the file's end
--                         where it has none
--     FirstFilesKept      a first-edition file is accepted today with the same board and place; none of its parts is a
--                         mark, and nothing is drawn at the start
--     OnlyByFour          whatever the first edition answered stands, a refusal too, unless that was 4 at a place where
--                         the kind of a mark stands
--     MarklessAsBefore    a file without a mark that today's reading accepts is a first-edition file: it was accepted
--                         with the same board and place
--     MarkTurnedAway      a file with a mark that today's reading accepts was refused by 4, at the place of its first
--                         mark's kind; so it never showed a board
-- A slice's bytes are below 256 (`Bytes`); lists do not say so by themselves.
use Rattle.std.specs.Prelude.{ℕ, ◌≡◌, Bool, true, false, cond, ◌||◌, List, [], ◌∷◌, ◌++◌, length}
use Rattle.refusals.specs.Outcomes.{given, refused}
use Rattle.refusals.specs.Refusals.{no_such_kind}
use Rattle.number.specs.Numbers.{Bytes}
use Rattle.kinds.specs.Kinds.{mark_kind}
use Rattle.board.specs.declared.Part.{Part}
use Rattle.board.specs.declared.Board.{Board}
use Rattle.board.specs.Parts.{is_mark, parts_of, empty_board}
use Rattle.board_reader.specs.Editions.{first_edition, current_edition}
use Rattle.board_reader.specs.Reading.{reading}
use Rattle.board_writer.specs.File.{counts_bytes, parts_bytes}
use Rattle.file_means.specs.FileRefusals.{StandsAt}

unfoldable pub has_mark : List Part → Bool
has_mark [] = false
has_mark (p ∷ ps) = is_mark p || has_mark ps

unfoldable pub before_mark : List Part → List Part
before_mark [] = []
before_mark (p ∷ ps) = cond (is_mark p) [] (p ∷ before_mark ps)

abbrev pub first_mark_at : Board → ℕ
first_mark_at b = length (counts_bytes b.counts ++ parts_bytes (before_mark (parts_of b)))

abbrev pub FirstFilesKept : Type 0
FirstFilesKept =
    (s : List ℕ) (b : Board) (n : ℕ)
    → reading first_edition s ≡ (b, given n)
    → (reading current_edition s ≡ (b, given n)) × (has_mark (parts_of b) ≡ false) × (b.start ≡ 0)

abbrev pub OnlyByFour : Type 0
OnlyByFour =
    (s : List ℕ)
    → ((p next : ℕ) → (reading first_edition s).1 ≡ refused no_such_kind p
    → ¬ (StandsAt first_edition s p mark_kind next))
    → reading current_edition s ≡ reading first_edition s

abbrev pub MarklessAsBefore : Type 0
MarklessAsBefore =
    (s : List ℕ) (b : Board) (n : ℕ)
    → reading current_edition s ≡ (b, given n)
    → has_mark (parts_of b) ≡ false
    → reading first_edition s ≡ (b, given n)

abbrev pub MarkTurnedAway : Type 0
MarkTurnedAway =
    (s : List ℕ) (b : Board) (n : ℕ)
    → Bytes s
    → reading current_edition s ≡ (b, given n)
    → has_mark (parts_of b) ≡ true
    → reading first_edition s ≡ (empty_board, refused no_such_kind (first_mark_at b))
