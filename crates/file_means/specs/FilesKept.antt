-- Request A1: "Every file accepted so far keeps its meaning." Stated over the definition of reading, with numbers of
-- at most three bytes as before that request, by the first edition as that request left it, and by the rule book as it
-- stands.
--     FilesKept    where the reading with numbers of three bytes accepts, today's accepts with the same board and place
--     OnlyByTwo    and whatever it answered stood in the first edition, a refusal too, unless that was 2, as it was for
--                  `80 80 80`. What became of that later is for `SecondEdition` to say
use Rattle.std.specs.Prelude.{ℕ, ◌≡◌, List}
use Rattle.refusals.specs.Outcomes.{given, refused}
use Rattle.refusals.specs.Refusals.{bad_form}
use Rattle.board.specs.declared.Board.{Board}
use Rattle.board_reader.specs.Editions.{three_byte_edition, first_edition, current_edition}
use Rattle.board_reader.specs.Reading.{reading}

abbrev pub FilesKept : Type 0
FilesKept =
    (s : List ℕ) (b : Board) (n : ℕ)
    → reading three_byte_edition s ≡ (b, given n)
    → reading current_edition s ≡ (b, given n)

abbrev pub OnlyByTwo : Type 0
OnlyByTwo =
    (s : List ℕ)
    → ((p : ℕ) → ¬ ((reading three_byte_edition s).1 ≡ refused bad_form p))
    → reading first_edition s ≡ reading three_byte_edition s
