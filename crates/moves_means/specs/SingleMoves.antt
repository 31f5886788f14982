-- What each word of a move says, in the words of the published model, and that it is said exactly then: over a step of
-- a relay, and over the call `moves::move_relay`, whatever it answers under its promise.
--     Comes b s r m        what the word m says of relay r in state s
--     StepExactly          of a relay of a board that breaks no rule, in any state: it comes to m exactly if `Comes`
--                          holds of m
--     MoveExactly          the call's word is m exactly if `Comes` holds of m, and the state is changed by drew and
--                          dropped alone, and only in that relay; the sets are those of the state that is left
--     MoveElevenExactly    the call refuses by 11, "no such relay", exactly if none of 15, 14 and 18 holds and the
--                          board has no relay r
use Rattle.std.specs.Prelude.{ℕ, ◌<◌, ◌≤◌, ◌≡◌, ◌↔◌, true}
use Rattle.refusals.specs.Outcomes.{given, refused}
use Rattle.refusals.specs.Refusals.{no_such_winding}
use Rattle.board.specs.declared.Board.{Board}
use Rattle.board.specs.Rules.{board_fine}
use Rattle.state.specs.declared.State.{State}
use Rattle.kept.specs.declared.Kept.{Kept}
use Rattle.kept.specs.Kept.{kept_at, CanUse}
use Rattle.moves.specs.declared.Moved.{Moved}
use Rattle.moves.specs.Steps.{Move, drew, dropped, rests, conflict, step_of, made}
use Rattle.moves.specs.Moving.{movable, told_move_answer, Moves}
use Rattle.moves_means.specs.Guards.{CanDraw, CanDrop, BothCurrents}

abbrev pub Comes : Board → State → ℕ → Move → Type 0
Comes b s r conflict = BothCurrents b s r
Comes b s r drew = ¬ (BothCurrents b s r) × CanDraw b s r
Comes b s r dropped = ¬ (BothCurrents b s r) × CanDrop b s r
Comes b s r rests = ¬ (BothCurrents b s r) × ¬ (CanDraw b s r) × ¬ (CanDrop b s r)

abbrev pub StepExactly : Type 0
StepExactly =
    (b : Board) (s : State) (r : ℕ) (m : Move)
    → board_fine b ≡ true
    → r < b.counts.relays
    → step_of b s r ≡ m ↔ Comes b s r m

abbrev pub MoveExactly : Type 0
MoveExactly =
    (b : Board) (h : Kept) (r : ℕ) (a : Moved) (m : Move)
    → Moves b h r a
    → movable b h r ≡ given tt
    → (told_move_answer a.answer ≡ given m ↔ Comes b h.state r m)
    × (told_move_answer a.answer ≡ given m → a.kept ≡ kept_at b (made h.state r m))

abbrev pub MoveElevenExactly : Type 0
MoveElevenExactly =
    (b : Board) (h : Kept) (r : ℕ) (a : Moved)
    → Moves b h r a
    → told_move_answer a.answer ≡ refused no_such_winding 0 ↔ CanUse b h × (b.counts.relays ≤ r)
