-- Request A9: "In a real hut no one moves the lowest number first. Show this: take a board, a state and fixed buttons,
-- and suppose that in no state reachable by allowed single moves is any relay in conflict, and that making one allowed
-- move there always leaves every other movable relay movable. Then if one order reaches idle after n moves, every order
-- can be carried on to idle, ends after exactly n moves, and ends in that same state." Over the calls
-- `moves::move_relay` and `runs::run`, whatever these answer under their promises. No single move touches a button.
--     Answers b s r m t       the call `move_relay` of relay r of board b, in state s with its sets, says m and leaves
--                             state t
--     SingleMove b s r t      an allowed move of relay r from state s to state t: its call says drew or dropped
--     InConflict b s r        the call of relay r says conflict in state s
--     CanMove M s r           relay r can move in state s: some move of M is a move of r
--     ReachableFrom M s t     some list of moves leads from state s to state t
--     IsIdle b s              "idle": no relay's call says drew, dropped or conflict in state s
--     NoConflict b s          "in no state reachable by allowed single moves is any relay in conflict", from state s
--     StaysMovable M s        "making one allowed move there always leaves every other movable relay movable": in every
--                             state t that can be reached from s, of two different relays that can move, after q has
--                             moved r still can
--     OneEnding b s n u       of lists of allowed moves from state s: every one can be carried on to state u, which is
--                             idle, and every one that ends idle has n moves and ends in u
--     TwoEndings b s          two lists of allowed moves from state s end idle in different states, so order matters
--     AnyOrder                where moves leave others movable (`StaysMovable`): if some list of n allowed moves ends
--                             idle, there is one ending. That no relay is in conflict need not be supposed for it
--     RunInAnyOrder           where moreover no relay is in conflict (`NoConflict`): if some list of n allowed moves
--                             ends idle, a run with room for n moves ends idle after n moves in that same state
--     RunShowsAll             where moves leave others movable: if a run ends idle, that is the one ending. So what the
--                             run answers is what the hut does, in whatever order its relays move
-- Of a board that breaks a rule, or a state that it does not allow, every call is refused: no move is allowed, and the
-- state counts as idle.
use Rattle.std.specs.Prelude.{ℕ, ◌≤◌, ◌≡◌, ◌⊎◌, List, length}
use Rattle.refusals.specs.Outcomes.{given}
use Rattle.board.specs.declared.Board.{Board}
use Rattle.state.specs.declared.State.{State}
use Rattle.kept.specs.declared.Kept.{Kept}
use Rattle.kept.specs.Kept.{kept_at}
use Rattle.moves.specs.declared.Moved.{Moved}
use Rattle.moves.specs.Steps as step
use Rattle.moves.specs.Moving.{told_move_answer, Moves}
use Rattle.runs.specs.declared.Ran.{Ran}
use Rattle.runs.specs.Runs.{idle}
use Rattle.runs.specs.Running.{told_ending, Runs}
use Rattle.runs_means.specs.LongerRuns.{AcceptedRun}
use Rattle.runs_means.specs.Following.{Movement, Follows}

pub record Answers (b : Board) (s : State) (r : ℕ) (m : step.Move) (t : State) : Type 0 where
  pub answer : Moved
  pub call : Moves b (kept_at b s) r answer
  pub says : told_move_answer answer.answer ≡ given m
  pub leaves : answer.kept.state ≡ t

abbrev pub SingleMove : Board → Movement
SingleMove b s r t = Answers b s r step.drew t ⊎ Answers b s r step.dropped t

abbrev pub InConflict : Board → State → ℕ → Type 0
InConflict b s r = (t : State) × Answers b s r step.conflict t

abbrev pub CanMove : Movement → State → ℕ → Type 0
CanMove M s r = (t : State) × M s r t

abbrev pub ReachableFrom : Movement → State → State → Type 0
ReachableFrom M s t = (rs : List ℕ) × Follows M s rs t

abbrev pub IsIdle : Board → State → Type 0
IsIdle b s = (r : ℕ) → ¬ (CanMove (SingleMove b) s r) × ¬ (InConflict b s r)

abbrev pub NoConflict : Board → State → Type 0
NoConflict b s = (t : State) (r : ℕ) → ReachableFrom (SingleMove b) s t → ¬ (InConflict b t r)

abbrev pub StaysMovable : Movement → State → Type 0
StaysMovable M s =
    (t u : State) (q r : ℕ)
    → ReachableFrom M s t
    → ¬ (q ≡ r)
    → M t q u
    → CanMove M t r
    → CanMove M u r

pub record OneEnding (b : Board) (s : State) (n : ℕ) (u : State) : Type 0 where
  pub idle_there : IsIdle b u
  pub carried_on : (rs : List ℕ) (t : State) → Follows (SingleMove b) s rs t → ReachableFrom (SingleMove b) t u
  pub ends_so : (rs : List ℕ) (t : State) → Follows (SingleMove b) s rs t → IsIdle b t → (length rs ≡ n) × (t ≡ u)

pub record TwoEndings (b : Board) (s : State) : Type 0 where
  pub one : State
  pub other : State
  pub reached : ReachableFrom (SingleMove b) s one
  pub also_reached : ReachableFrom (SingleMove b) s other
  pub idle_there : IsIdle b one
  pub also_idle : IsIdle b other
  pub different : ¬ (one ≡ other)

abbrev pub AnyOrder : Type 0
AnyOrder =
    (b : Board) (s : State) (rs : List ℕ) (u : State)
    → StaysMovable (SingleMove b) s
    → Follows (SingleMove b) s rs u
    → IsIdle b u
    → OneEnding b s (length rs) u

abbrev pub RunInAnyOrder : Type 0
RunInAnyOrder =
    (b : Board) (h : Kept) (log : List ℕ) (a : Ran) (l rs : List ℕ) (t : State)
    → Runs b h log a l
    → AcceptedRun b h log
    → NoConflict b h.state
    → StaysMovable (SingleMove b) h.state
    → Follows (SingleMove b) h.state rs t
    → IsIdle b t
    → length rs ≤ length log
    → (told_ending a.word ≡ given idle) × (a.moves ≡ length rs) × (a.kept ≡ kept_at b t)

abbrev pub RunShowsAll : Type 0
RunShowsAll =
    (b : Board) (h : Kept) (log : List ℕ) (a : Ran) (l : List ℕ)
    → Runs b h log a l
    → AcceptedRun b h log
    → StaysMovable (SingleMove b) h.state
    → told_ending a.word ≡ given idle
    → OneEnding b h.state a.moves a.kept.state
