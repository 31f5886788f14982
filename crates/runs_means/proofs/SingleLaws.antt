-- What the call says of a relay is its step: so a single move turns its relay and leads to a state that fits the board,
-- and where every step rests no call says otherwise.
use Prim.Native.Nat.{ℕ, ◌<◌}
use mathlib.Core.Path.{◌≡◌, refl, sym, ap, subst, ◌∙◌}
use mathlib.Core.Logic.{inl, inr, ⊎_elim}
use mathlib.Core.Bool.{Bool, true, not}
use borrow.Author.Tests.{lt-ltb}
use Rattle.refusals.specs.Outcomes.{Outcome, given, refused}
use Rattle.refusals.proofs.OutcomeLaws.{refused_never, given_injective}
use Rattle.board.specs.declared.Board.{Board}
use Rattle.board.specs.Rules.{board_fine}
use Rattle.state.specs.declared.State.{State}
use Rattle.state.specs.States.{is_drawn, state_fine}
use Rattle.kept.specs.declared.Kept.{Kept}
use Rattle.kept.specs.Kept.{kept_at}
use Rattle.kept.proofs.KeptLaws.{usable_fine}
use Rattle.moves.specs.Steps as step
use Rattle.moves.specs.Steps.{step_of, made}
use Rattle.moves.specs.Moving.{movable, moving, told_moved}
use Rattle.moves.proofs.StepLaws.{made_fits}
use Rattle.moves.proofs.MovingLaws.{movable_there, movable_fine, moving_given, moving_refused}
use Rattle.moves.proofs.MovingLaws.{moved-tells, moving-tabled}
use Rattle.moves_means.specs.OneRelay.{ElseAsBefore, Changes}
use Rattle.moves_means.proofs.SingleMoves.{call_moved}
use Rattle.moves_means.proofs.OneRelay.{changes_one_relay}
use Rattle.runs_means.specs.Orders.{Answers, SingleMove, IsIdle}
use Rattle.runs_means.proofs.TurnLaws.{RelayTurned}

-- what a call comes to that is not refused
pub record Stepped (b : Board) (s : State) (r : ℕ) (m : step.Move) (t : State) : Type 0 where
  pub fine : board_fine b ≡ true
  pub fits : state_fine b.counts s ≡ true
  pub below : r < b.counts.relays
  pub steps : step_of b s r ≡ m
  pub leads : made s r m ≡ t

module _ (b : Board) (s : State) (r : ℕ) where
  abbrev h : Kept
  h = kept_at b s

  pub answers_stepped : {m : step.Move} {t : State} → Answers b s r m t → Stepped b s r m t
  answers_stepped {m} {t} x = by (movable b h r) refl
    where
      by : (o : Outcome (Unit {0})) → movable b h r ≡ o → Stepped b s r m t
      by (given u) taken =
          let told = call_moved b h r x.answer x.call taken in
          let same : step_of b s r ≡ m = given_injective (step_of b s r) m ((λ i. (sym told i).1) ∙ x.says) in
          let fit = movable_fine b h r taken in
          record {
            fine = fit.0;
            fits = fit.1;
            below = fit.2;
            steps = same;
            leads = ap (made s r) (sym same) ∙ (λ i. (sym told i).0.state) ∙ x.leaves;
          }
      by (refused n p) off =
          absurd (refused_never n p m ((λ i. ((moving_refused b h r n p off ∙ sym x.call) i).1) ∙ x.says))

  pub stepped_answers : {m : step.Move} {t : State} → Stepped b s r m t → Answers b s r m t
  stepped_answers {m} {t} x =
      let taken = movable_there b h r (usable_fine b s x.fine x.fits) (lt-ltb r b.counts.relays x.below) in
      let call = moved-tells.onto (moving b h r) (moving-tabled b h r) in
      let told : told_moved (moved-tells.untold (moving b h r)) ≡ (kept_at b (made s r m), given m) =
      call ∙ sym (moving_given b h r m taken (sym x.steps)) in
      record {
        answer = moved-tells.untold (moving b h r);
        call = call;
        says = λ i. (told i).1;
        leaves = (λ i. (told i).0.state) ∙ x.leads;
      }

-- ---- a single move turns its relay, and its state fits the board

turned_so : {s : State} {r : ℕ} {t : State} {was is : Bool}
    → (is_drawn s r ≡ was) × (is_drawn t r ≡ is) × ElseAsBefore s r t → is ≡ not was → RelayTurned s r t
turned_so (before, after, else) turns =
    record { turns = after ∙ turns ∙ ap not (sym before); else_as_before = else }

module _ (b : Board) where
  answers-changes : (s : State) (r : ℕ) (m : step.Move) (t : State) → Answers b s r m t → Changes s r (given m) t
  answers-changes s r m t x =
      rw (x.says, x.leaves) at (changes_one_relay b (kept_at b s) r x.answer x.call)

  pub single_turns : (s : State) (r : ℕ) (t : State) → SingleMove b s r t → RelayTurned s r t
  single_turns s r t (inl x) = turned_so (answers-changes s r step.drew t x) refl
  single_turns s r t (inr x) = turned_so (answers-changes s r step.dropped t x) refl

  answers_fits : (s : State) (r : ℕ) (m : step.Move) (t : State) → Answers b s r m t → state_fine b.counts t ≡ true
  answers_fits s r m t x =
      let stepped = answers_stepped b s r x in
      subst (λ (v : State). state_fine b.counts v ≡ true) stepped.leads
      (made_fits b.counts s r m stepped.fits stepped.below)

  pub single_fits : (s : State) (r : ℕ) (t : State) → SingleMove b s r t → state_fine b.counts t ≡ true
  single_fits s r t move = ⊎_elim (answers_fits s r step.drew t) (answers_fits s r step.dropped t) move

  -- ---- where every relay rests, that is idle

  abbrev Restful : step.Move → Type 0
  Restful step.drew = ⊥
  Restful step.dropped = ⊥
  Restful step.rests = Unit {0}
  Restful step.conflict = ⊥

  pub rests_idle : (s : State) → ((r : ℕ) → r < b.counts.relays → step_of b s r ≡ step.rests) → IsIdle b s
  rests_idle s rest r = (
    λ (t, move). ⊎_elim (never step.drew t) (never step.dropped t) move,
    λ (t, x). never step.conflict t x,
  )
    where
      never : (m : step.Move) (t : State) → Answers b s r m t → Restful m
      never m t x =
          let stepped = answers_stepped b s r x in
          subst Restful (sym (rest r stepped.below) ∙ stepped.steps) tt
