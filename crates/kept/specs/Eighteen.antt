-- When 18 is given. Request A5: "kept sets that don't belong to this board and state". The calls test `belongs`, and
-- that stands for this sentence exactly: kept sets belong if y is in the set of x exactly where a conducting part joins
-- them, and in its set without windings exactly where one does that is no winding.
--     KeptJoin b h       so it is of the sets of h, on board b in its state; there are 64 sets of each sort
--     EighteenExactly    what `usable` answers is 18 exactly if neither 15 nor 14 holds and the sets are not so
use Rattle.std.specs.Prelude.{ℕ, Result, ◌≡◌, ◌↔◌, true, length}
use Rattle.refusals.specs.declared.Refusal.{Refusal}
use Rattle.refusals.specs.Outcomes.{refused, told}
use Rattle.refusals.specs.Refusals.{foreign_sets}
use Rattle.board.specs.declared.Board.{Board}
use Rattle.board.specs.Rules.{most_terminals, board_fine}
use Rattle.state.specs.States.{state_fine}
use Rattle.neighbours.specs.Neighbours.{Joined, JoinedBare, joined}
use Rattle.kept.specs.declared.Kept.{Kept}
use Rattle.kept.specs.Kept.{Usable}

pub record KeptJoin (b : Board) (h : Kept) : Type 0 where
  pub many : (length h.sets.near ≡ most_terminals) × (length h.sets.bare ≡ most_terminals)
  pub near : (x y : ℕ) → joined h.sets.near x y ≡ true ↔ Joined b h.state x y
  pub bare : (x y : ℕ) → joined h.sets.bare x y ≡ true ↔ JoinedBare b h.state x y

abbrev pub EighteenExactly : Type 0
EighteenExactly =
    (b : Board) (h : Kept) (a : Result (Unit {0}) Refusal)
    → Usable b h a
    → told a ≡ refused foreign_sets 0
    ↔ (board_fine b ≡ true) × (state_fine b.counts h.state ≡ true) × ¬ (KeptJoin b h)
