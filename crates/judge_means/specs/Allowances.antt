-- Demand 3, first half, of any judge, and proved of each that keeps the promise of the call `judge::judge`: "A larger
-- allowance never changes live or dead". Rule book, how tight the promises are: "an invented effort by demand 3, as the
-- verdict turns at that number".
--     Settled v            v is live or dead
--     LargerAllowance J    what an allowance settles, every larger one settles the same way, with the same effort and
--                          the same chain
--     TurnsAtEffort J      the verdict turns at the effort: settled the same way from it on, undecided below it
--     EffortSome J         "So effort is at least 1", of a winding that is not shunted: its own, and that reported with
--                          live and dead
use Rattle.std.specs.Prelude.{ℕ, ◌<◌, ◌≤◌, ◌≡◌, ◌⊎◌, Ok}
use Rattle.board.specs.declared.Board.{Board}
use Rattle.board.specs.BreaksNoRule.{BoardFits}
use Rattle.state.specs.declared.State.{State}
use Rattle.kept.specs.declared.Kept.{Kept}
use Rattle.search.specs.declared.Winding.{Winding}
use Rattle.search.specs.declared.Verdict.{Verdict}
use Rattle.search.specs.declared.Finding.TheVariants as said
use Rattle.judge.specs.declared.Which.{Which}
use Rattle.judge_means.specs.Shunts.{Shunted, OnBoard}
use Rattle.judge_means.specs.Exactness.{Judge, effort_of, OfEveryVerdict}

abbrev pub Settled : Verdict → Type 0
Settled v = (v.finding ≡ Ok said.Live) ⊎ (v.finding ≡ Ok said.Dead)

abbrev pub LargerAllowance : Judge → Type 0
LargerAllowance J =
    (b : Board) (h : Kept) (r : ℕ) (n : Which) (w x : ℕ) (v u : Verdict)
    → J b h r n w v
    → J b h r n x u
    → w ≤ x
    → Settled v
    → u ≡ v

abbrev pub TurnsAtEffort : Judge → Type 0
TurnsAtEffort J =
    (b : Board) (h : Kept) (r : ℕ) (n : Which) (w x : ℕ) (v u : Verdict)
    → J b h r n w v
    → J b h r n x u
    → Settled v
    → (v.effort ≤ x → u ≡ v) × (x < v.effort → u.finding ≡ Ok said.Undecided)

abbrev pub EffortSome : Judge → Type 0
EffortSome J =
    ((b : Board) (s : State) (e : Winding)
    → BoardFits b
    → OnBoard b e
    → ¬ (Shunted b s e)
    → 1 ≤ effort_of b s e)
    × (OfEveryVerdict J λ b s w e v. Settled v → ¬ (Shunted b s e) → 1 ≤ v.effort)
