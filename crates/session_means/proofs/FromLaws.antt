-- Laws of `lines_from`: at the input's end no line comes, before it one event's; and more events allowed for than there
-- are bytes left change nothing.
use Prim.Native.Nat.{ℕ, zero, suc, ◌-◌, ◌<◌, ◌≤◌}
use native.Mathlib.Omega.{arith}
use mathlib.Core.Path.{◌≡◌, refl, sym, ap, ◌∙◌}
use mathlib.Core.Bool.{Bool, true, false}
use mathlib.Core.List.{List, [], ◌∷◌}
use lib.Dec.{leb}
use lib.ListN.{length}
use borrow.Author.Tests.{le-leb, lt-leb, leb-true, leb-false}
use Rattle.refusals.specs.declared.Found.{Found}
use Rattle.refusals.specs.Outcomes.{Outcome, given, refused}
use Rattle.board.specs.declared.Board.{Board}
use Rattle.kept.specs.declared.Kept.{Kept}
use Rattle.board_reader.specs.Editions.{Edition}
use Rattle.lines.specs.Lines.{Line}
use Rattle.events.specs.declared.Event.{Event}
use Rattle.events.specs.Events.{Shown, event_at, event_line}
use Rattle.session.specs.Sessions.{event_lines, lines_from}
use Rattle.session.proofs.ComingLaws.{event_next}

module _ (ed : Edition) (b : Board) (s : List ℕ) where
  pub from_end : (k : ℕ) (t : Kept) (e at : ℕ) → length s ≤ at → lines_from ed k b s t e at ≡ []
  unfolding lines_from
  from_end zero t e at past = refl
  from_end (suc k) t e at past = rw (le-leb (length s) at past) refl

  pub from_event : (k : ℕ) (t : Kept) (e at : ℕ) → at < length s
      → lines_from ed (suc k) b s t e at
      ≡ event_lines (event_at ed b.counts.buttons s at) (event_line b e t)
      (λ u. lines_from ed k b s u (suc e))
  unfolding lines_from
  from_event k t e at there = rw (lt-leb (length s) at there) refl

  -- two ways to go on after an event that agree at the places after it
  lines_same : (at : ℕ) (tell : Event → Shown) (go stay : Kept → ℕ → List Line)
      → ((u : Kept) (next : ℕ) → at < next → go u next ≡ stay u next)
      → (o : Outcome (Found Event)) → event_at ed b.counts.buttons s at ≡ o
      → event_lines o tell go ≡ event_lines o tell stay
  lines_same at tell go stay same (given v) e =
      ap {B = List Line} (λ ls. (tell v.value).0 ∷ ls)
      (same (tell v.value).1 v.next (event_next ed b.counts.buttons s at v e))
  lines_same at tell go stay same (refused n p) e = refl

  enough_by : (k m : ℕ) (t : Kept) (e at : ℕ)
      → ((u : Kept) (next : ℕ) → at < next → lines_from ed k b s u (suc e) next ≡ lines_from ed m b s u (suc e) next)
      → (past : Bool) → leb (length s) at ≡ past → lines_from ed (suc k) b s t e at ≡ lines_from ed (suc m) b s t e at
  enough_by k m t e at same true past =
      from_end (suc k) t e at (leb-true (length s) at past)
      ∙ sym (from_end (suc m) t e at (leb-true (length s) at past))
  enough_by k m t e at same false there =
      from_event k t e at (leb-false (length s) at there)
      ∙ lines_same at (event_line b e t) (λ u. lines_from ed k b s u (suc e))
      (λ u. lines_from ed m b s u (suc e)) same (event_at ed b.counts.buttons s at) refl
      ∙ sym (from_event m t e at (leb-false (length s) at there))

  -- k and m both allow for an event on each byte left
  pub from_enough : (k m : ℕ) (t : Kept) (e at : ℕ) → length s - at ≤ k → length s - at ≤ m
      → lines_from ed k b s t e at ≡ lines_from ed m b s t e at
  from_enough zero m t e at few most = from_end zero t e at (omega arith) ∙ sym (from_end m t e at (omega arith))
  from_enough (suc k) zero t e at most few =
      from_end (suc k) t e at (omega arith) ∙ sym (from_end zero t e at (omega arith))
  from_enough (suc k) (suc m) t e at most more =
      enough_by k m t e at (λ u next later. from_enough k m u (suc e) next (omega arith) (omega arith))
      (leb (length s) at) refl
