-- The last number of an event's line. Rule book, "The session program": "event number, word, moves, and the sum of 2 to
-- the relay number over drawn relays". `tells` prints the state's word of drawn relays there; here is that it is the
-- sum.
--     DrawnIsSum    in every state that fits a board, the word of drawn relays is that sum over the board's relays
use Rattle.std.specs.Prelude.{◌≡◌, true}
use Rattle.bits.specs.Sets.{sum_below}
use Rattle.board.specs.declared.Counts.{Counts}
use Rattle.state.specs.declared.State.{State}
use Rattle.state.specs.States.{state_fine}

abbrev pub DrawnIsSum : Type 0
DrawnIsSum = (c : Counts) (s : State) → state_fine c s ≡ true → s.drawn ≡ sum_below c.relays s.drawn
