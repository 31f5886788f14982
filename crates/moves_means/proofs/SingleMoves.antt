-- The theorems of specs/SingleMoves.antt: of what a relay comes to `Comes` holds, by the relay's sort, and it holds of
-- no two words; so each word is said exactly then, by a step and by the call. And 11 is given exactly if its line
-- holds.
use Prim.Native.Nat.{ℕ, ◌<◌}
use mathlib.Core.Path.{◌≡◌, refl, sym, ap, subst, ◌∙◌}
use mathlib.Core.Logic.{⊎_elim}
use mathlib.Core.Bool.{true}
use Rattle.refusals.specs.Outcomes.{Outcome, given, refused}
use Rattle.refusals.specs.Refusals.{no_such_winding}
use Rattle.refusals.proofs.OutcomeLaws.{refused_never, given_injective}
use Rattle.board.specs.declared.Board.{Board}
use Rattle.board.specs.Parts.{parts_of}
use Rattle.board.specs.Rules.{board_fine}
use Rattle.board.specs.Sorts.{IsRegular, IsSteel}
use Rattle.board.specs.BreaksNoRule.{BoardFits}
use Rattle.board.proofs.FineLaws.{fine_relays_wound}
use Rattle.board.proofs.BreaksNoRule.{fine_fits}
use Rattle.state.specs.declared.State.{State}
use Rattle.state.specs.States.{is_drawn}
use Rattle.neighbours.specs.Neighbours.{sets_of}
use Rattle.kept.specs.declared.Kept.{Kept}
use Rattle.kept.specs.Kept.{kept_at}
use Rattle.kept.proofs.KeptLaws.{usable_can, can-usable}
use Rattle.search.specs.declared.Winding.{Winding}
use Rattle.judge.specs.RelayWindings.{OfRelay, regular, steel, windings_at}
use Rattle.moves.specs.Steps.{Move, move_by, taken_live, step_of, made}
use Rattle.moves.specs.declared.Moved.{Moved}
use Rattle.moves.specs.Moving.{movable, told_move_answer, told_moved, Moves}
use Rattle.moves.proofs.StepLaws.{step_windings}
use Rattle.moves.proofs.MovingLaws.{movable_fine, movable_lacking, movable_eleven, moving_refused, moving_given}
use Rattle.moves_means.specs.SingleMoves.{Comes, StepExactly, MoveExactly, MoveElevenExactly}
use Rattle.moves_means.proofs.TakenLaws.{regular_taken, drawing_taken, dropping_taken, regular_windings}
use Rattle.moves_means.proofs.TakenLaws.{steel_windings}
use Rattle.moves_means.proofs.ComesLaws.{regular_comes, steel_comes, comes_exclusive}

-- ---- a step, by the sort of the relay

module _ (b : Board) (s : State) (r : ℕ) (fits : BoardFits b) (below : r < b.counts.relays) where
  -- a step goes by the windings x of the relay, and by what each is taken for
  windings_mean : (x : OfRelay Winding) → windings_at r (parts_of b) ≡ x
      → Comes b s r (move_by (taken_live (sets_of b s) b.counts.terminals) (is_drawn s r) x)
      → Comes b s r (step_of b s r)
  windings_mean x has comes = subst (Comes b s r) (sym (step_windings b s r x has)) comes

  regular_means : IsRegular r (parts_of b) → Comes b s r (step_of b s r)
  regular_means sort =
      let first = regular_taken b s r fits sort in
      windings_mean (regular first.winding) (regular_windings b r sort first.winding first.its)
      (regular_comes b s r below sort (is_drawn s r) _ refl first.says)

  steel_means : IsSteel r (parts_of b) → Comes b s r (step_of b s r)
  steel_means sort =
      let first = drawing_taken b s r fits sort in
      let second = dropping_taken b s r fits sort in
      windings_mean (steel first.winding second.winding)
      (steel_windings b r first.winding second.winding first.its second.its)
      (steel_comes b s r below sort (is_drawn s r) _ _ refl first.says second.says)

-- of what a relay of either sort comes to `Comes` holds
pub step_means : (b : Board) (s : State) (r : ℕ) → board_fine b ≡ true → r < b.counts.relays
    → Comes b s r (step_of b s r)
step_means b s r fine below =
    ⊎_elim (regular_means b s r (fine_fits b fine) below) (steel_means b s r (fine_fits b fine) below)
    (fine_relays_wound b fine r below)

-- ---- over the call

-- what it tells, where it is known whether the relay is moved
module _ (b : Board) (h : Kept) (r : ℕ) (a : Moved) (moves : Moves b h r a) where
  -- what the relay's step comes to
  abbrev comes : Move
  comes = step_of b h.state r

  pub call_moved : movable b h r ≡ given tt → told_moved a ≡ (kept_at b (made h.state r comes), given comes)
  call_moved taken = moves ∙ sym (moving_given b h r comes taken refl)

  call_refused : (k p : ℕ) → movable b h r ≡ refused k p → told_moved a ≡ (h, refused k p)
  call_refused k p off = moves ∙ sym (moving_refused b h r k p off)

  refused-call : (k p : ℕ) → told_move_answer a.answer ≡ refused k p → movable b h r ≡ refused k p
  refused-call k p says = by_call (movable b h r) refl
    where
      by_call : (o : Outcome (Unit {0})) → movable b h r ≡ o → movable b h r ≡ refused k p
      by_call (given tt) taken = absurd (refused_never k p comes (sym says ∙ λ i. (call_moved taken i).1))
      by_call (refused m q) off =
          let same = sym (ap (λ (x : Kept × Outcome Move). x.1) (call_refused m q off)) ∙ says in
          cc

-- ---- the theorems

pub step_exactly : StepExactly
step_exactly b s r m fine below =
    let means = step_means b s r fine below in (
      λ is. subst (Comes b s r) is means,
      λ comes. comes_exclusive b s r (step_of b s r) m means comes,
    )

pub move_exactly : MoveExactly
move_exactly b h r a m moves taken =
    let fit = movable_fine b h r taken in
    let exactly = step_exactly b h.state r m fit.0 fit.2 in
    let told = call_moved b h r a moves taken in
    let step = step_of b h.state r in
    let answers : told_move_answer a.answer ≡ given step = λ i. (told i).1 in
    let leaves : a.kept ≡ kept_at b (made h.state r step) = λ i. (told i).0 in
    let same : told_move_answer a.answer ≡ given m → step ≡ m =
    λ says. given_injective step m (sym answers ∙ says) in (
      (λ says. exactly.0 (same says), λ comes. answers ∙ ap given (exactly.1 comes)),
      λ says. leaves ∙ ap (λ (n : Move). kept_at b (made h.state r n)) (same says),
    )

pub move_eleven_exactly : MoveElevenExactly
move_eleven_exactly b h r a moves = (
  λ says.
      let last = movable_eleven b h r (refused-call b h r a moves no_such_winding 0 says) in
      (usable_can b h last.0, last.1),
  λ (can, past) i.
      (call_refused b h r a moves no_such_winding 0 (movable_lacking b h r (can-usable b h can) past) i).1,
)
