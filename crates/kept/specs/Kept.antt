-- The sets kept beside the state, and what every call on a board, a state and kept sets asks first. Request A5: "Keep
-- for each terminal the set of terminals joined to it, beside the state"; "After any calls the kept sets equal those
-- worked out from board and state"; "Refusals: 18, kept sets that don't belong to this board and state, after 14." So a
-- call that is not refused leaves the sets of the state that it leaves.
--     kept_at b s            the state s with the sets of board b in it beside it
--     kept_fresh b           the fresh state of board b likewise
--     same_row xs ys         two rows of sets are the same, set by set
--     belongs b h            18 does not hold: the sets of h are those of board b in its state
--     usable_lines b h       the lines that every call on a board and a state with kept sets asks first: 15, 14, 18
--     usable b h             what stands against it by these
--     CanUse b h             none of these lines holds: the board breaks no rule (15), the state fits it (14), and the
--                            sets belong to both (18)
--     left h f o             the state and sets that a call leaves beside what it came to: f a where it gives a; "A
--                            refused call returns the number, place 0 and the state it was given", and the sets
--     KeptOf b s r           promise: `of` board b and state s answers r
--     KeptFresh b r          promise: `fresh` of board b answers r
--     Usable b h r           promise: `usable` of board b and h answers r
use Rattle.std.specs.Prelude.{ℕ, ◌≡◌, Result, Bool, true, false, ◌&&◌, List, [], ◌∷◌, eqb}
use Rattle.refusals.specs.declared.Refusal.{Refusal}
use Rattle.refusals.specs.Outcomes.{Outcome, given, refused, told}
use Rattle.refusals.specs.Refusals.{broken_board, state_beyond_board, foreign_sets}
use Rattle.refusals.specs.Order.{Order, first_no}
use Rattle.board.specs.declared.Board.{Board}
use Rattle.board.specs.Rules.{board_fine}
use Rattle.state.specs.declared.State.{State}
use Rattle.state.specs.States.{fresh_state, state_fine}
use Rattle.neighbours.specs.Neighbours.{neighbours, bare_neighbours, sets_of}
use Rattle.kept.specs.declared.Kept.{Kept}

abbrev pub kept_at : Board → State → Kept
kept_at b s = record { state = s; sets = sets_of b s }

abbrev pub kept_fresh : Board → Kept
kept_fresh b = kept_at b (fresh_state b)

unfoldable pub same_row : List ℕ → List ℕ → Bool
same_row [] [] = true
same_row [] (y ∷ ys) = false
same_row (x ∷ xs) [] = false
same_row (x ∷ xs) (y ∷ ys) = eqb x y && same_row xs ys

unfoldable pub belongs : Board → Kept → Bool
belongs b h =
    same_row h.sets.near (neighbours b h.state) && same_row h.sets.bare (bare_neighbours b h.state)

abbrev pub usable_lines : Board → Kept → Order
usable_lines b h =
    (board_fine b, broken_board) ∷ (state_fine b.counts h.state, state_beyond_board) ∷ (belongs b h, foreign_sets) ∷ []

unfoldable pub usable : Board → Kept → Outcome (Unit {0})
usable b h = first_no (usable_lines b h)

abbrev pub CanUse : Board → Kept → Type 0
CanUse b h = (board_fine b ≡ true) × (state_fine b.counts h.state ≡ true) × (belongs b h ≡ true)

unfoldable pub left : {A : Type 0} → Kept → (A → Kept) → Outcome A → Kept × Outcome A
left h f (given a) = (f a, given a)
left h f (refused n p) = (h, refused n p)

abbrev pub KeptOf : Board → State → Kept → Type 0
KeptOf b s r = r ≡ kept_at b s

abbrev pub KeptFresh : Board → Kept → Type 0
KeptFresh b r = r ≡ kept_fresh b

abbrev pub Usable : Board → Kept → Result (Unit {0}) Refusal → Type 0
Usable b h r = told r ≡ usable b h
