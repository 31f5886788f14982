-- The state of a board. Rule book: "The state is which relays are drawn and which buttons are pushed"; request A2: "The
-- board record carries the start its marks give (else 15), and a fresh state follows it."
--     empty_state                     no relay drawn and no button pushed
--     fresh_state b                   the fresh state of board b: the relays of its start drawn, no button pushed
--     is_drawn s r, is_pushed s b     relay r is drawn, button b is pushed
--     with_drawn, with_dropped s r    s with relay r drawn, dropped: "A move changes that relay and nothing else"
--     with_pushed, with_released s b  s with button b pushed, released
--     state_fine c s                  14 does not hold: every drawn relay is below R, every pushed button below B
--     StateFresh b r                  promise: `fresh` of board b answers r
--     StateDraws s n r                promise: `draw` of relay n in state s answers r
--     StateDrops s n r                promise: `drop`, likewise
--     StatePushes s n r               promise: `push` of button n in state s answers r
--     StateReleases s n r             promise: `release`, likewise
--     StateIsDrawn s n r              promise: `is_drawn`, of relay n in state s, answers r
--     StateIsPushed s n r             promise: `is_pushed`, of button n in state s, answers r
--     StateFits s c r                 promise: `fits` of state s and the counts c answers r
use Rattle.std.specs.Prelude.{ℕ, ◌≡◌, Bool, ◌&&◌}
use Rattle.bits.specs.Sets.{member, including, excluding, within}
use Rattle.board.specs.declared.Counts.{Counts}
use Rattle.board.specs.declared.Board.{Board}
use Rattle.state.specs.declared.State.{State}

abbrev pub empty_state : State
empty_state = record { drawn = 0; pushed = 0 }

abbrev pub fresh_state : Board → State
fresh_state b = record { drawn = b.start; pushed = 0 }

abbrev pub is_drawn : State → ℕ → Bool
is_drawn s r = member s.drawn r

abbrev pub is_pushed : State → ℕ → Bool
is_pushed s b = member s.pushed b

abbrev pub with_drawn : State → ℕ → State
with_drawn s r = record { drawn = including s.drawn r; pushed = s.pushed }

abbrev pub with_dropped : State → ℕ → State
with_dropped s r = record { drawn = excluding s.drawn r; pushed = s.pushed }

abbrev pub with_pushed : State → ℕ → State
with_pushed s b = record { drawn = s.drawn; pushed = including s.pushed b }

abbrev pub with_released : State → ℕ → State
with_released s b = record { drawn = s.drawn; pushed = excluding s.pushed b }

unfoldable pub state_fine : Counts → State → Bool
state_fine c s = within s.drawn c.relays && within s.pushed c.buttons

abbrev pub StateFresh : Board → State → Type 0
StateFresh b r = r ≡ fresh_state b

abbrev pub StateDraws : State → ℕ → State → Type 0
StateDraws s n r = r ≡ with_drawn s n

abbrev pub StateDrops : State → ℕ → State → Type 0
StateDrops s n r = r ≡ with_dropped s n

abbrev pub StatePushes : State → ℕ → State → Type 0
StatePushes s n r = r ≡ with_pushed s n

abbrev pub StateReleases : State → ℕ → State → Type 0
StateReleases s n r = r ≡ with_released s n

abbrev pub StateIsDrawn : State → ℕ → Bool → Type 0
StateIsDrawn s n r = r ≡ is_drawn s n

abbrev pub StateIsPushed : State → ℕ → Bool → Type 0
StateIsPushed s n r = r ≡ is_pushed s n

abbrev pub StateFits : State → Counts → Bool → Type 0
StateFits s c r = r ≡ state_fine c s
