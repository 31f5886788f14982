-- Parts and boards. Rule book, "Parts of a board".
--     fields_of p     the fields that the table gives a part, in its order: its bytes and its comparison go by them
--     is_mark p       part p is a mark, which joins nothing (request A2)
--     parts_of b      a board's first C parts: nothing here or above looks at the places past them
--     most_parts      the most parts that a board can have
--     blank           what fills the places past C of a board that was read
--     padded ps       parts as an array of `most_parts` places
--     empty_board     "the empty board (T 2, else 0)"
--     BlankPart r     promise: `blank` answers r
--     EmptyBoard r    promise: `empty` answers r
--     TakesParts b r  promise: `parts` of board b answers r
use Rattle.std.specs.Prelude.{ℕ, ◌-◌, ◌≡◌, Bool, List, [], ◌++◌, eqb, length, take, replicate}
use Rattle.kinds.specs.declared.Kind.TheVariants.{Wire}
use Rattle.kinds.specs.Kinds.{kind_number, mark_kind, fields}
use Rattle.board.specs.declared.Part.{Part}
use Rattle.board.specs.declared.Board.{Board}

abbrev pub fields_of : Part → List ℕ
fields_of p = fields p.kind p.a p.b

abbrev pub is_mark : Part → Bool
is_mark p = eqb (kind_number p.kind) mark_kind

abbrev pub parts_of : Board → List Part
parts_of b = take b.counts.parts b.parts

abbrev pub most_parts : ℕ
most_parts = 256

abbrev pub blank : Part
blank = record { a = 0; b = 0; kind = Wire }

unfoldable pub padded : List Part → List Part
padded ps = ps ++ replicate (most_parts - length ps) blank

unfoldable pub empty_board : Board
empty_board =
    record { counts = record { terminals = 2; relays = 0; buttons = 0; parts = 0 }; parts = padded []; start = 0 }

abbrev pub BlankPart : Part → Type 0
BlankPart r = r ≡ blank

abbrev pub EmptyBoard : Board → Type 0
EmptyBoard r = r ≡ empty_board

abbrev pub TakesParts : Board → List Part → Type 0
TakesParts b r = r ≡ parts_of b
