-- Moves that follow one another, whatever a move is. Nothing here knows boards or relays.
--     Movement                     what counts as a move, from one state, logged as a number, to another
--     Follows M s cs t             moves as M has them, logged as cs, lead from state s to state t, one after the other
--     SomeTwice M s cs             some state comes twice within the moves cs from state s: after some of them and
--                                  again after more of them
--     FirstMeeting M s cs t i d    the moves cs from state s end in state t, which was there after the first i of them,
--                                  d moves before; and before that no state came twice
use Rattle.std.specs.Prelude.{ℕ, ◌+◌, ◌-◌, ◌<◌, ◌≤◌, ◌≡◌, List, [], ◌∷◌, length, take}
use Rattle.state.specs.declared.State.{State}

abbrev pub Movement : Type 1
Movement = State → ℕ → State → Type 0

unfoldable pub Follows : Movement → State → List ℕ → State → Type 0
Follows M s [] t = s ≡ t
Follows M s (c ∷ cs) t = (u : State) × M s c u × Follows M u cs t

pub record SomeTwice (M : Movement) (s : State) (cs : List ℕ) : Type 0 where
  pub some : ℕ
  pub more : ℕ
  pub less : some < more
  pub within : more ≤ length cs
  pub state : State
  pub comes : Follows M s (take some cs) state
  pub again : Follows M s (take more cs) state

pub record FirstMeeting (M : Movement) (s : State) (cs : List ℕ) (t : State) (i d : ℕ) : Type 0 where
  pub moves : i + d ≡ length cs
  pub apart : 0 < d
  pub comes : Follows M s (take i cs) t
  pub again : Follows M s cs t
  pub first : ¬ (SomeTwice M s (take (length cs - 1) cs))
