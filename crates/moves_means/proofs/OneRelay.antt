-- The theorem of specs/OneRelay.antt: what a word says of the relay before the move is in its guard (`Comes`), and what
-- `made` leaves are the laws of the state.
use Prim.Native.Nat.{ℕ, ◌<◌}
use native.Mathlib.Omega.{arith}
use mathlib.Core.Path.{◌≡◌, refl, sym, subst}
use mathlib.Core.Logic.{inl, inr}
use mathlib.Core.Bool.{true, false}
use Rattle.bits.specs.Sets.{room}
use Rattle.refusals.specs.Outcomes.{Outcome, given, refused}
use Rattle.board.specs.declared.Board.{Board}
use Rattle.board.proofs.FineLaws.{fine_range}
use Rattle.state.specs.declared.State.{State}
use Rattle.state.specs.States.{is_drawn}
use Rattle.state.proofs.StateLaws.{drawn_draw, drawn-drop}
use Rattle.kept.specs.declared.Kept.{Kept}
use Rattle.moves.specs.Steps.{Move, drew, dropped, rests, conflict, step_of, made}
use Rattle.moves.specs.Moving.{movable, moving}
use Rattle.moves.proofs.StepLaws.{made_other, made_pushed}
use Rattle.moves.proofs.MovingLaws.{movable_fine, moving_refused, moving_given}
use Rattle.moves_means.specs.Guards.{CanDraw, CanDrop}
use Rattle.moves_means.specs.SingleMoves.{Comes}
use Rattle.moves_means.specs.OneRelay.{ElseAsBefore, Changes, ChangesOneRelay}
use Rattle.moves_means.proofs.SingleMoves.{step_means}

pub made_else : (s : State) (r : ℕ) (m : Move) → ElseAsBefore s r (made s r m)
made_else s r m = record { relays = made_other s r m; buttons = made_pushed s r m }

module _ (b : Board) (s : State) (r : ℕ) where
  -- what can be drawn is dropped, and what can be dropped is drawn
  can_draw_dropped : CanDraw b s r → is_drawn s r ≡ false
  can_draw_dropped (below, inl (regular, can)) = can.0
  can_draw_dropped (below, inr (steel, can)) = can.0

  can_drop_drawn : CanDrop b s r → is_drawn s r ≡ true
  can_drop_drawn (below, inl (regular, can)) = can.0
  can_drop_drawn (below, inr (steel, can)) = can.0

  made-changes : (m : Move) → r < room → Comes b s r m → Changes s r (given m) (made s r m)
  made-changes drew fits comes = (can_draw_dropped comes.1, drawn_draw s r fits, made_else s r drew)
  made-changes dropped fits comes = (can_drop_drawn comes.1, drawn-drop s r, made_else s r dropped)
  made-changes rests fits comes = refl
  made-changes conflict fits comes = refl

-- what the call leaves, by what stands against it
module _ (b : Board) (h : Kept) (r : ℕ) where
  abbrev ChangesTo : Kept × Outcome Move → Type 0
  ChangesTo x = Changes h.state r x.1 x.0.state

  moving-changes : (o : Outcome (Unit {0})) → movable b h r ≡ o → ChangesTo (moving b h r)
  moving-changes (given u) taken =
      let fit = movable_fine b h r taken in
      let few = (fine_range b fit.0).relays_few in
      let m = step_of b h.state r in
      subst ChangesTo (moving_given b h r m taken refl)
      (made-changes b h.state r m (omega (arith, fit.2, few)) (step_means b h.state r fit.0 fit.2))
  moving-changes (refused n p) off = subst ChangesTo (moving_refused b h r n p off) refl

pub changes_one_relay : ChangesOneRelay
changes_one_relay b h r a moves =
    subst (ChangesTo b h r) (sym moves) (moving-changes b h r (movable b h r) refl)
