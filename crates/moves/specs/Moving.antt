-- A single move of a named relay, as a call: "A single move of a named relay answers drew, dropped, rests, .. or
-- conflict, and changes the state only for the first two", since request A7 without undecided; "A refused call returns
-- the number, place 0 and the state it was given", and the kept sets.
--     move_lines b h r             the lines of moving relay r of board b from h: 15, 14, 18, 11
--     movable b h r                what stands against it
--     moving b h r                 the call: where it is not refused, it leaves the state that the relay's step makes,
--                                  with the sets of the board in that state
--     told_move_answer, told_moved the answer's cases in the rule book's words and numbers
--     Moves b h r a                promise: `move_relay` of relay r of board b from h answers a
use Rattle.std.specs.Prelude.{ℕ, ◌≡◌, Result, [], ◌∷◌, ◌++◌, ltb}
use Rattle.refusals.specs.declared.Refusal.{Refusal}
use Rattle.refusals.specs.Outcomes.{Outcome, given, ◌>>◌, told_as}
use Rattle.refusals.specs.Refusals.{no_such_winding}
use Rattle.refusals.specs.Order.{Order, first_no}
use Rattle.board.specs.declared.Board.{Board}
use Rattle.kept.specs.declared.Kept.{Kept}
use Rattle.kept.specs.Kept.{kept_at, usable_lines, left}
use Rattle.moves.specs.declared.Move as code-move
use Rattle.moves.specs.declared.Moved.{Moved}
use Rattle.moves.specs.Steps.{Move, step_of, made, told_move}

abbrev pub move_lines : Board → Kept → ℕ → Order
move_lines b h r = usable_lines b h ++ ((ltb r b.counts.relays, no_such_winding) ∷ [])

unfoldable pub movable : Board → Kept → ℕ → Outcome (Unit {0})
movable b h r = first_no (move_lines b h r)

unfoldable pub moving : Board → Kept → ℕ → Kept × Outcome Move
moving b h r =
    left h (λ m. kept_at b (made h.state r m)) (movable b h r >> given (step_of b h.state r))

abbrev pub told_move_answer : Result code-move.Move Refusal → Outcome Move
told_move_answer a = told_as told_move a

abbrev pub told_moved : Moved → Kept × Outcome Move
told_moved r = (r.kept, told_move_answer r.answer)

abbrev pub Moves : Board → Kept → ℕ → Moved → Type 0
Moves b h r a = told_moved a ≡ moving b h r
