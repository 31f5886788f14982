-- What a fresh state is, over the call `State::fresh`. Request A2: "The board record carries the start its marks give
-- (else 15), and a fresh state follows it."
--     IsFresh b s     in state s exactly the relays are drawn that board b marks, no button is pushed, and 14 does not
--                     refuse it
--     FreshFollows    the fresh state of a board that breaks no rule is such a state
use Rattle.std.specs.Prelude.{ℕ, ◌≡◌, ◌↔◌, true, false}
use Rattle.board.specs.declared.Board.{Board}
use Rattle.board.specs.Parts.{parts_of}
use Rattle.board.specs.Rules.{board_fine}
use Rattle.board.specs.Sorts.{IsMarked}
use Rattle.state.specs.declared.State.{State}
use Rattle.state.specs.States.{is_drawn, is_pushed, state_fine, StateFresh}

pub record IsFresh (b : Board) (s : State) : Type 0 where
  pub drawn : (r : ℕ) → is_drawn s r ≡ true ↔ IsMarked r (parts_of b)
  pub pushed : (n : ℕ) → is_pushed s n ≡ false
  pub fits : state_fine b.counts s ≡ true

abbrev pub FreshFollows : Type 0
FreshFollows = (b : Board) (s : State) → board_fine b ≡ true → StateFresh b s → IsFresh b s
