-- A relay moves by what the judge of `divide` says of its windings. Request A6: "Runs and single moves use the new
-- judge." Over the calls, whatever they answer under their promises.
--     says_live o       the judgement o is live; shunted and dead are not
--     TakenAsTold       what a step takes a winding for, by `feed::feed_by` of the state's sets and its `is_live`, is
--                       exactly whether `divide::judge` says that it is live
--     RegularAsTold     the word of `moves::move_relay` on a regular relay is what a regular relay does, drawn or not,
--                       by what the judge says of its winding
--     SteelAsTold       likewise of a steel relay, by what it says of its first and its second winding
-- A run goes by the same step of a relay, `step_of` (`crates/runs/specs/Running.antt`).
use Rattle.std.specs.Prelude.{ℕ, ◌≡◌, Result, Bool, true, false}
use Rattle.refusals.specs.declared.Refusal.{Refusal}
use Rattle.refusals.specs.Outcomes.{Outcome, given, refused, told_as}
use Rattle.board.specs.declared.Board.{Board}
use Rattle.board.specs.Parts.{parts_of}
use Rattle.board.specs.Sorts.{IsRegular, IsSteel}
use Rattle.state.specs.States.{is_drawn}
use Rattle.neighbours.specs.Neighbours.{sets_of}
use Rattle.kept.specs.declared.Kept.{Kept}
use Rattle.search.specs.declared.Winding.{Winding}
use Rattle.feed.specs.declared.Feed.{Feed}
use Rattle.feed.specs.Feeds.{Feeds, LiveBy}
use Rattle.judge.specs.declared.Which.{Which}
use Rattle.judge.specs.declared.Which.TheVariants.{First, Second}
use Rattle.divide.specs.declared.Judgement as code-judgement
use Rattle.divide.specs.AtOnce.{Judgement, live, shunted, dead, told_judgement, JudgesAtOnce}
use Rattle.judge_means.specs.Exactness.{AcceptedWinding}
use Rattle.moves.specs.declared.Moved.{Moved}
use Rattle.moves.specs.Steps.{regular_move, steel_move}
use Rattle.moves.specs.Moving.{movable, told_move_answer, Moves}

abbrev pub says_live : Outcome Judgement → Bool
says_live (given live) = true
says_live (given shunted) = false
says_live (given (dead x)) = false
says_live (refused n p) = false

abbrev pub TakenAsTold : Type 0
TakenAsTold =
    (b : Board) (h : Kept) (r : ℕ) (n : Which) (e : Winding) (f : Feed) (t : Bool)
    (j : Result code-judgement.Judgement Refusal)
    → Feeds (sets_of b h.state) b.counts.terminals f
    → LiveBy f e t
    → JudgesAtOnce b h r n j
    → AcceptedWinding b h r n e
    → t ≡ says_live (told_as told_judgement j)

abbrev pub RegularAsTold : Type 0
RegularAsTold =
    (b : Board) (h : Kept) (r : ℕ) (a : Moved) (j : Result code-judgement.Judgement Refusal)
    → Moves b h r a
    → movable b h r ≡ given tt
    → IsRegular r (parts_of b)
    → JudgesAtOnce b h r First j
    → told_move_answer a.answer ≡ given (regular_move (is_drawn h.state r) (says_live (told_as told_judgement j)))

abbrev pub SteelAsTold : Type 0
SteelAsTold =
    (b : Board) (h : Kept) (r : ℕ) (a : Moved) (j k : Result code-judgement.Judgement Refusal)
    → Moves b h r a
    → movable b h r ≡ given tt
    → IsSteel r (parts_of b)
    → JudgesAtOnce b h r First j
    → JudgesAtOnce b h r Second k
    → told_move_answer a.answer
    ≡ given
    (steel_move (is_drawn h.state r) (says_live (told_as told_judgement j)) (says_live (told_as told_judgement k)))
