-- When two boards are the same. Rule book: "Boards are compared by their counts and first C parts, each part by its
-- kind and the fields the table gives it." Since the table gives a mark its relay and no ends, it is "compared by its
-- relay alone" (request A2); and the start is what the marks give.
--     same_counts         the same counts, field by field
--     same_part           the same part, by its kind and its fields
--     same_part_equiv     law: parts compare as an equivalence
--     same_parts          the same parts one by one
--     same_board x y      boards x and y are the same
--     SameBoards x y r    promise: `same` of boards x and y answers r
use Rattle.std.specs.Prelude.{◌≡◌, Bool, ◌&&◌, List, eqb}
use Rattle.std.specs.Cmp.{IsEquivalence, and_equiv, on_equiv, nat_eq_equiv}
use Rattle.std.specs.Cmp.Lexicographic.{pointwise, on_texts_equal}
use Rattle.kinds.specs.Kinds.{kind_number}
use Rattle.board.specs.declared.Part.{Part}
use Rattle.board.specs.declared.Counts.{Counts}
use Rattle.board.specs.declared.Board.{Board}
use Rattle.board.specs.Parts.{fields_of, parts_of}

unfoldable pub same_counts : Counts → Counts → Bool
same_counts c d =
    eqb c.terminals d.terminals && eqb c.relays d.relays && eqb c.buttons d.buttons
    && eqb c.parts d.parts

unfoldable pub same_part : Part → Part → Bool
same_part p q = eqb (kind_number p.kind) (kind_number q.kind) && pointwise eqb (fields_of p) (fields_of q)

pub same_part_equiv : IsEquivalence same_part
unfolding same_part
same_part_equiv = and_equiv (on_equiv (λ p. kind_number p.kind) nat_eq_equiv) (on_texts_equal fields_of)

abbrev pub same_parts : List Part → List Part → Bool
same_parts = pointwise same_part

unfoldable pub same_board : Board → Board → Bool
same_board x y = same_counts x.counts y.counts && same_parts (parts_of x) (parts_of y)

abbrev pub SameBoards : Board → Board → Bool → Type 0
SameBoards x y r = r ≡ same_board x y
