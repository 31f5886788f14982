-- How a relay moves, by its windings, each of them live if a chain shows it and it is not shunted, over the call
-- `moves::move_relay`, whatever it answers under its promise. Rule book: "Regular: its winding is always judged .. it
-- draws if dropped and live, drops if drawn and dead, else rests. Steel: both windings are always judged .. Both live:
-- conflict. Otherwise it draws if dropped and the drawing winding is live, drops if drawn and the dropping winding is
-- live, else rests." No allowance bears on it, and no move is undecided (request A7).
--     RegularComes b s r e m      what the word m says of a regular relay r with winding e: never conflict
--     SteelComes b s r e f m      what it says of a steel relay r with drawing winding e and dropping winding f: what
--                                 rests is drawn, its dropping winding dead, or dropped, its drawing winding dead
--     ComesByChains b s r m       relay r is regular, with winding e, and `RegularComes` holds of m; or it is steel,
--                                 with drawing winding e and dropping winding f, and `SteelComes` does
--     EveryRelayMoves             every relay of an accepted board and state (`movable`: none of 15, 14, 18 and 11
--                                 holds) draws, drops, rests or is in conflict: the call says a word, and it is m
--                                 exactly if `ComesByChains` holds of m
-- Every relay has these windings, and each is of that kind: `EveryRelayWound` of `judge_means`.
use Rattle.std.specs.Prelude.{ℕ, ◌≡◌, ◌⊎◌, ◌↔◌, true, false}
use Rattle.refusals.specs.Outcomes.{given}
use Rattle.board.specs.declared.Board.{Board}
use Rattle.board.specs.Parts.{parts_of}
use Rattle.board.specs.Sorts.{IsRegular, IsSteel}
use Rattle.state.specs.declared.State.{State}
use Rattle.state.specs.States.{is_drawn}
use Rattle.kept.specs.declared.Kept.{Kept}
use Rattle.search.specs.declared.Winding.{Winding}
use Rattle.judge.specs.declared.Which.TheVariants.{First, Second}
use Rattle.judge_means.specs.Exactness.{IsLive}
use Rattle.judge_means.specs.Eleven.{ItsWinding}
use Rattle.moves.specs.declared.Moved.{Moved}
use Rattle.moves.specs.Steps.{Move, drew, dropped, rests, conflict}
use Rattle.moves.specs.Moving.{movable, told_move_answer, Moves}

abbrev pub RegularComes : Board → State → ℕ → Winding → Move → Type 0
RegularComes b s r e drew = (is_drawn s r ≡ false) × IsLive b s e
RegularComes b s r e dropped = (is_drawn s r ≡ true) × ¬ (IsLive b s e)
RegularComes b s r e rests =
    ((is_drawn s r ≡ true) × IsLive b s e) ⊎ ((is_drawn s r ≡ false) × ¬ (IsLive b s e))
RegularComes b s r e conflict = ⊥

abbrev pub SteelComes : Board → State → ℕ → Winding → Winding → Move → Type 0
SteelComes b s r e f conflict = IsLive b s e × IsLive b s f
SteelComes b s r e f drew = (is_drawn s r ≡ false) × IsLive b s e × ¬ (IsLive b s f)
SteelComes b s r e f dropped = (is_drawn s r ≡ true) × IsLive b s f × ¬ (IsLive b s e)
SteelComes b s r e f rests =
    ((is_drawn s r ≡ true) × ¬ (IsLive b s f)) ⊎ ((is_drawn s r ≡ false) × ¬ (IsLive b s e))

pub data ComesByChains (b : Board) (s : State) (r : ℕ) (m : Move) : Type 0 where
  by_regular : (e : Winding) → IsRegular r (parts_of b) → ItsWinding b r First e → RegularComes b s r e m
      → ComesByChains b s r m
  by_steel : (e f : Winding) → IsSteel r (parts_of b) → ItsWinding b r First e → ItsWinding b r Second f
      → SteelComes b s r e f m → ComesByChains b s r m

abbrev pub EveryRelayMoves : Type 0
EveryRelayMoves =
    (b : Board) (h : Kept) (r : ℕ) (a : Moved)
    → Moves b h r a
    → movable b h r ≡ given tt
    → ((m : Move) × (told_move_answer a.answer ≡ given m))
    × ((m : Move) → told_move_answer a.answer ≡ given m ↔ ComesByChains b h.state r m)
