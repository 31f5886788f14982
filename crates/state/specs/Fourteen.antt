-- When 14 is given. Rule book: "state has a relay or button the board lacks". The calls test `state_fine`, and that
-- stands for this sentence exactly, whatever the state's words hold.
--     MembersBelow c s    every drawn relay of s is below R, and every pushed button below B
--     FourteenExactly     what `State::fits` answers for a state and counts is true exactly if no drawn relay and no
--                         pushed button is beyond them
use Rattle.std.specs.Prelude.{ℕ, ◌<◌, ◌≡◌, ◌↔◌, Bool, true}
use Rattle.board.specs.declared.Counts.{Counts}
use Rattle.state.specs.declared.State.{State}
use Rattle.state.specs.States.{is_drawn, is_pushed, StateFits}

pub record MembersBelow (c : Counts) (s : State) : Type 0 where
  pub drawn_below : (r : ℕ) → is_drawn s r ≡ true → r < c.relays
  pub pushed_below : (b : ℕ) → is_pushed s b ≡ true → b < c.buttons

abbrev pub FourteenExactly : Type 0
FourteenExactly = (s : State) (c : Counts) (fine : Bool) → StateFits s c fine → fine ≡ true ↔ MembersBelow c s
