-- In each state one move is the lowest: the state tells its byte, and the byte the state that it leads to. Where all
-- rest, or a relay stops the run with conflict, there is none.
use Prim.Native.Nat.{ℕ, ◌+◌, ◌<◌, ◌≤◌}
use native.Mathlib.Omega.{arith}
use mathlib.Core.Path.{◌≡◌, sym, ap, subst, ◌∙◌}
use mathlib.Core.Logic.{inl, inr, ◌⊎◌}
use mathlib.Core.Bool.{true}
use Rattle.bits.proofs.BoolLaws.{by_less}
use Rattle.board.specs.declared.Board.{Board}
use Rattle.board.specs.Rules.{board_fine}
use Rattle.board.proofs.FineLaws.{fine_range}
use Rattle.state.specs.declared.State.{State}
use Rattle.state.specs.States.{with_drawn, with_dropped}
use Rattle.moves.specs.Steps as step
use Rattle.moves_means.specs.Guards.{CanDraw, CanDrop, BothCurrents}
use Rattle.moves_means.specs.SingleMoves.{Comes}
use Rattle.moves_means.proofs.ComesLaws.{comes_exclusive}
use Rattle.runs.specs.Looks.{draw_mark}
use Rattle.runs_means.specs.Courses.{Resting, StoppedBy, LowestMove}
use Rattle.runs_means.proofs.FollowLaws.{OneEnd, OneNumber}

module _ (b : Board) where
  abbrev MadeBy : State → ℕ → State → ℕ → Type 0
  MadeBy s c t r =
      ((c ≡ r + draw_mark) × Comes b s r step.drew × (t ≡ with_drawn s r))
      ⊎ ((c ≡ r) × Comes b s r step.dropped × (t ≡ with_dropped s r))

  -- ---- the byte tells where the move leads

  module _ (fine : board_fine b ≡ true) where
    made_unique : (s : State) (c : ℕ) (t u : State) (r q : ℕ) → r < b.counts.relays → q < b.counts.relays
        → MadeBy s c t r → MadeBy s c u q → t ≡ u
    made_unique s c t u r q below under (inl x) (inl y) =
        let same : r ≡ q = omega (arith, x.0, y.0) in x.2 ∙ ap (with_drawn s) same ∙ sym y.2
    made_unique s c t u r q below under (inl x) (inr y) =
        absurd (omega (arith, x.0, y.0, under, (fine_range b fine).relays_few))
    made_unique s c t u r q below under (inr x) (inl y) =
        absurd (omega (arith, x.0, y.0, below, (fine_range b fine).relays_few))
    made_unique s c t u r q below under (inr x) (inr y) =
        let same : r ≡ q = sym x.0 ∙ y.0 in x.2 ∙ ap (with_dropped s) same ∙ sym y.2

    pub lowest_leads : OneEnd (LowestMove b)
    lowest_leads s c t u x y =
        made_unique s c t u _ _ x.move.on_board y.move.on_board x.move.made y.move.made

  -- ---- the state tells the byte: one relay is the lowest that can move, and it draws or it drops

  rests_unguarded : {s : State} {r : ℕ} → Comes b s r step.rests → ¬ (CanDraw b s r ⊎ CanDrop b s r)
  rests_unguarded rests (inl can) = rests.1 can
  rests_unguarded rests (inr can) = rests.2 can

  -- a relay that moves has not current through both its windings
  moves_one : {s : State} {c : ℕ} {t : State} {r : ℕ} → BothCurrents b s r → ¬ (MadeBy s c t r)
  moves_one both (inl x) = x.1.0 both
  moves_one both (inr x) = x.1.0 both

  not_lower : {s : State} {c d : ℕ} {t u : State} (x : LowestMove b s c t) (y : LowestMove b s d u)
      → ¬ (x.move.relay < y.move.relay)
  not_lower x y less = rests_unguarded (y.resting x.move.relay less) x.move.guarded

  abbrev IsDrew : step.Move → Type 0
  IsDrew step.drew = Unit {0}
  IsDrew step.dropped = ⊥
  IsDrew step.rests = ⊥
  IsDrew step.conflict = ⊥

  draws_or_drops : (s : State) (r : ℕ) → Comes b s r step.drew → ¬ (Comes b s r step.dropped)
  draws_or_drops s r draws drops =
      subst IsDrew (comes_exclusive b s r step.drew step.dropped draws drops) tt

  byte_unique : (s : State) (c d : ℕ) (t u : State) (r : ℕ) → MadeBy s c t r → MadeBy s d u r → c ≡ d
  byte_unique s c d t u r (inl x) (inl y) = x.0 ∙ sym y.0
  byte_unique s c d t u r (inl x) (inr y) = absurd (draws_or_drops s r x.1 y.1)
  byte_unique s c d t u r (inr x) (inl y) = absurd (draws_or_drops s r y.1 x.1)
  byte_unique s c d t u r (inr x) (inr y) = x.0 ∙ sym y.0

  pub lowest_logs : OneNumber (LowestMove b)
  lowest_logs s c d t u x y =
      let same : y.move.relay ≡ x.move.relay =
      by_less x.move.relay y.move.relay (λ less. absurd (not_lower x y less))
      (λ least.
      by_less y.move.relay x.move.relay (λ less. absurd (not_lower y x less)) (λ most. omega arith)) in
      byte_unique s c d t u x.move.relay x.move.made (subst (MadeBy s d u) same y.move.made)

  -- ---- where a run is idle or in conflict there is no lowest move

  pub resting_none_moves : {s : State} {c : ℕ} {t : State} → Resting b s b.counts.relays → ¬ (LowestMove b s c t)
  resting_none_moves rest x = rests_unguarded (rest _ x.move.on_board) x.move.guarded

  pub conflict_none_moves : {s : State} {r c : ℕ} {t : State} → StoppedBy b s r step.conflict → ¬ (LowestMove b s c t)
  conflict_none_moves {s = s} {r = r} (below, rest, both) x =
      by_less x.move.relay r
      (λ less. rests_unguarded (rest x.move.relay less) x.move.guarded)
      (λ least.
      by_less r x.move.relay
      (λ less. (x.resting r less).0 both)
      (λ most. moves_one (subst (BothCurrents b s) (same least most) both) x.move.made))
    where
      same : r ≤ x.move.relay → x.move.relay ≤ r → r ≡ x.move.relay
      same least most = omega arith
