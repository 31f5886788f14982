-- Demand 3, second half, over the call `runs::run`, whatever it answers under its promise: "So of two accepted runs
-- from one board and state, the one with no shorter log and no less allowance per winding starts with every move of the
-- other, and where the other ended idle or in conflict it ends with that word in that same state." It does so after the
-- same moves. Request A7: "for runs demand 3 now speaks of the log alone". Request A8: "Demand 3 lists buzz with idle
-- and conflict as endings that stand."
--     AcceptedRun b h log    the call is not refused
--     moves_of a l           the moves made: the log's bytes up to their number
--     IsStart xs ys          ys starts with xs
--     Stands a               a ended idle, in conflict or with buzz
--     Extends a l c k        the run that answered c and left k starts with every move of the one that answered a and
--                            left l, and is the same run where that one stands
--     LongerRun              the theorem: no shorter log. Of one state only its own sets are not refused, so "from one
--                            board and state" is from one h
use Rattle.std.specs.Prelude.{ℕ, ◌≤◌, ◌≡◌, ◌⊎◌, Ok, List, ◌++◌, length, take}
use Rattle.refusals.specs.Outcomes.{given}
use Rattle.board.specs.declared.Board.{Board}
use Rattle.kept.specs.declared.Kept.{Kept}
use Rattle.runs.specs.declared.Ran.{Ran}
use Rattle.runs.specs.declared.Ending.TheVariants.{Idle, Conflict, Buzz}
use Rattle.runs.specs.Running.{runnable, Runs}

abbrev pub AcceptedRun : Board → Kept → List ℕ → Type 0
AcceptedRun b h log = runnable b h log ≡ given tt

abbrev pub moves_of : Ran → List ℕ → List ℕ
moves_of a l = take a.moves l

pub record IsStart (xs ys : List ℕ) : Type 0 where
  pub rest : List ℕ
  pub whole : ys ≡ xs ++ rest

abbrev pub Stands : Ran → Type 0
Stands a = (a.word ≡ Ok Idle) ⊎ ((a.word ≡ Ok Conflict) ⊎ (a.word ≡ Ok Buzz))

pub record Extends (a : Ran) (l : List ℕ) (c : Ran) (k : List ℕ) : Type 0 where
  pub starts : IsStart (moves_of a l) (moves_of c k)
  pub stands : Stands a → (c ≡ a) × (moves_of c k ≡ moves_of a l)

abbrev pub LongerRun : Type 0
LongerRun =
    (b : Board) (h : Kept) (log long : List ℕ) (a c : Ran) (l k : List ℕ)
    → Runs b h log a l
    → Runs b h long c k
    → AcceptedRun b h log
    → AcceptedRun b h long
    → length log ≤ length long
    → Extends a l c k
