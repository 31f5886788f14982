-- When two boards are the same, over the call `board::same`. Rule book: "Boards are compared by their counts and first
-- C parts, each part by its kind and the fields the table gives it."
--     compared p     what a part is compared by: its kind and its fields
--     Same x y       the boards x and y have equal counts, and what their first C parts are compared by is equal too
--     SameExactly    `same` says of two boards that they are the same exactly if `Same` holds of them
use Rattle.std.specs.Prelude.{ℕ, ◌≡◌, ◌↔◌, Bool, true, List, map}
use Rattle.kinds.specs.declared.Kind.{Kind}
use Rattle.board.specs.declared.Part.{Part}
use Rattle.board.specs.declared.Board.{Board}
use Rattle.board.specs.Parts.{fields_of, parts_of}
use Rattle.board.specs.Same.{SameBoards}

abbrev pub compared : Part → Kind × List ℕ
compared p = (p.kind, fields_of p)

abbrev pub Same : Board → Board → Type 0
Same x y = (x.counts ≡ y.counts) × (map compared (parts_of x) ≡ map compared (parts_of y))

abbrev pub SameExactly : Type 0
SameExactly = (x y : Board) (r : Bool) → SameBoards x y r → r ≡ true ↔ Same x y
