-- The rules behind refusals 3 to 9 and 17, one test each, and all of them together on a board. The reader of board
-- files goes by the same tests, each where its field comes.
--     least_terminals, most_terminals  the range of T
--     most_relays, most_buttons        the most that R and B can be
--     in_range low high x              x is from low to high, both among them
--     counts_fine c                    3: T is 2 to 64, R 0 to 32, B 0 to 32 and C 0 to 256
--     terminal_fine c x                5: terminal x is below T
--     ends_fine a b                    6: the two ends differ
--     limit_of c k                     what a name carried by a kind of number k must be below: B for a button, else R
--     name_fine c k                    7: the relay or button that kind k carries is below R or B
--     ends_fit c p                     5 and 6 of the part p; a mark "joins nothing" and passes
--     part_fits c p                    5 to 7 of the part p, on which no other part bears
--     part_fine c w p                  5 to 8 and 17 of the part p after parts that gave the windings and marks w
--     gained_all w ps                  the windings and marks once the parts ps have come too
--     parts_fine c w ps                5 to 8 and 17 of each of the parts ps after parts that gave w
--     start_of ps                      the start that the marks among the parts ps give: the relays that they name
--     all_wound c ps                   9: after the parts ps no relay lacks a winding. It is asked once, after the last
--                                      part
--     board_fine b                     a board breaks no rule of refusals 3 to 9 and 17, and "the board record carries
--                                      the start its marks give" (request A2): 15 does not hold
--     NameLimit c k r                  promise: `limit` of a kind of number k answers r
--     Checks b r                       promise: `check` of board b answers r
-- What the functions of this crate promise each other:
--     row_after c w ps                 the windings and marks after the parts ps, if 5 to 8 and 17 hold of none of them
use Rattle.std.specs.Prelude.{ℕ, ◌≡◌, Bool, true, cond, not, ◌&&◌, ◌||◌, List, [], ◌∷◌, ltb, leb, eqb, Option, Some}
use Rattle.std.specs.Prelude.{None}
use Rattle.kinds.specs.declared.Kind.{Kind}
use Rattle.windings.specs.declared.WoundSoFar.{WoundSoFar}
use Rattle.kinds.specs.Kinds.{kind_number, name_of, wire_kind, button_kind}
use Rattle.windings.specs.Windings.{none_wound, winding_free, unmarked, gained, complete}
use Rattle.board.specs.declared.Part.{Part}
use Rattle.board.specs.declared.Counts.{Counts}
use Rattle.board.specs.declared.Board.{Board}
use Rattle.board.specs.Parts.{is_mark, parts_of, most_parts}

abbrev pub least_terminals : ℕ
least_terminals = 2

abbrev pub most_terminals : ℕ
most_terminals = 64

abbrev pub most_relays : ℕ
most_relays = 32

abbrev pub most_buttons : ℕ
most_buttons = 32

unfoldable pub in_range : ℕ → ℕ → ℕ → Bool
in_range low high x = leb low x && leb x high

unfoldable pub counts_fine : Counts → Bool
counts_fine c =
    in_range least_terminals most_terminals c.terminals
    && in_range 0 most_relays c.relays
    && in_range 0 most_buttons c.buttons
    && in_range 0 most_parts c.parts

abbrev pub terminal_fine : Counts → ℕ → Bool
terminal_fine c x = ltb x c.terminals

abbrev pub ends_fine : ℕ → ℕ → Bool
ends_fine a b = not (eqb a b)

abbrev pub limit_of : Counts → ℕ → ℕ
limit_of c k = cond (eqb k button_kind) c.buttons c.relays

unfoldable pub name_fine : Counts → Kind → Bool
name_fine c k = eqb (kind_number k) wire_kind || ltb (name_of k) (limit_of c (kind_number k))

unfoldable pub ends_fit : Counts → Part → Bool
ends_fit c p = is_mark p || terminal_fine c p.a && terminal_fine c p.b && ends_fine p.a p.b

unfoldable pub part_fits : Counts → Part → Bool
part_fits c p = ends_fit c p && name_fine c p.kind

unfoldable pub part_fine : Counts → WoundSoFar → Part → Bool
part_fine c w p = part_fits c p && winding_free w p.kind && unmarked w p.kind

unfoldable pub gained_all : WoundSoFar → List Part → WoundSoFar
gained_all w [] = w
gained_all w (p ∷ ps) = gained_all (gained w p.kind) ps

unfoldable pub parts_fine : Counts → WoundSoFar → List Part → Bool
parts_fine c w [] = true
parts_fine c w (p ∷ ps) = part_fine c w p && parts_fine c (gained w p.kind) ps

abbrev pub start_of : List Part → ℕ
start_of ps = (gained_all none_wound ps).marked

abbrev pub all_wound : Counts → List Part → Bool
all_wound c ps = complete c.relays (gained_all none_wound ps)

unfoldable pub board_fine : Board → Bool
board_fine b =
    counts_fine b.counts && parts_fine b.counts none_wound (parts_of b) && all_wound b.counts (parts_of b)
    && eqb b.start (start_of (parts_of b))

abbrev pub NameLimit : Counts → ℕ → ℕ → Type 0
NameLimit c k r = r ≡ limit_of c k

abbrev pub Checks : Board → Bool → Type 0
Checks b r = r ≡ board_fine b

unfoldable pub row_after : Counts → WoundSoFar → List Part → Option WoundSoFar
row_after c w ps = cond (parts_fine c w ps) (Some (gained_all w ps)) None
