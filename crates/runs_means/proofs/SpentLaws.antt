-- A run that ends spent has come through one state more than it had room for moves, all different; and a board of R
-- relays has only 2 to the R, the buttons being fixed.
use Prim.Native.Nat.{ℕ, ◌+◌, ◌^◌, ◌<◌, ◌≤◌}
use native.Mathlib.Omega.{arith}
use mathlib.Core.Path.{◌≡◌, refl, sym, ap, subst, ◌∙◌}
use mathlib.Core.Logic.{inl, inr}
use mathlib.Core.Bool.{true}
use mathlib.Core.List.{List, [], ◌∷◌, map}
use lib.ListN.{length, length-map}
use borrow.Author.Tests.{ltb-true}
use Rattle.lists.specs.Members.{◌∈◌, All, Once}
use Rattle.lists.proofs.MemberLaws.{once-below-length}
use Rattle.bits.specs.Sets.{within}
use Rattle.bits.proofs.BoolLaws.{both_true}
use Rattle.refusals.specs.Outcomes.{Outcome, given, refused}
use Rattle.refusals.proofs.OutcomeLaws.{refused_never, given_injective}
use Rattle.board.specs.declared.Counts.{Counts}
use Rattle.board.specs.declared.Board.{Board}
use Rattle.state.specs.declared.State.{State}
use Rattle.state.specs.States.{state_fine}
use Rattle.kept.specs.declared.Kept.{Kept}
use Rattle.kept.proofs.KeptLaws.{usable_given}
use Rattle.moves.specs.Steps as step
use Rattle.moves.proofs.StepLaws.{made_buttons, made_fits}
use Rattle.runs.specs.Looks.{Stepper}
use Rattle.runs.specs.Runs.{Ending, idle, spent, conflict, buzz, Run, met_ago, run_of}
use Rattle.runs.specs.Running as told
use Rattle.runs.specs.Running.{runnable, ran, running}
use Rattle.runs.proofs.RunLaws.{met, rested, halted, filled, RunGoes, stops, moved, run_goes}
use Rattle.runs.proofs.RunFits.{look_makes_below}
use Rattle.runs.proofs.RunningLaws.{runnable_given, running_by}
use Rattle.runs_means.proofs.CameLaws.{member_met}

abbrev drawn_of : List State → List ℕ
drawn_of ss = map (λ (s : State). s.drawn) ss

-- a state with the same buttons and the same relays is that state
drawn-member : (s : State) (ss : List State) → All (λ (t : State). t.pushed ≡ s.pushed) ss → s.drawn ∈ drawn_of ss
    → s ∈ ss
drawn-member s [] same never = elim never [ ]
drawn-member s (t ∷ ss) same (inl here) =
    inl (λ i. record { drawn = here i; pushed = sym same.0 i })
drawn-member s (t ∷ ss) same (inr there) = inr (drawn-member s ss same.1 there)

abbrev IsSpent : Ending → Type 0
IsSpent idle = ⊥
IsSpent conflict = ⊥
IsSpent buzz = ⊥
IsSpent spent = Unit {0}

module _ (c : Counts) (f : Stepper) where
  -- the states that a run came through to s: all different, by their drawn relays, and all of the board's
  record Through (ss : List State) (s : State) : Type 0 where
    once : Once (drawn_of ss)
    few : All (λ (n : ℕ). n < 2 ^ c.relays) (drawn_of ss)
    buttons : All (λ (t : State). t.pushed ≡ s.pushed) ss

  drawn_few : (s : State) → state_fine c s ≡ true → s.drawn < 2 ^ c.relays
  unfolding state_fine within
  drawn_few s fits = ltb-true s.drawn (2 ^ c.relays) (both_true _ _ fits).0

  drawn_new : {ss : List State} {s : State} → Through ss s → met_ago s ss ≡ 0 → ¬ (s.drawn ∈ drawn_of ss)
  drawn_new {ss} {s} came new there = member_met 0 s ss (drawn-member s ss came.buttons there) new

  through_next : {ss : List State} {s : State} (r : ℕ) (m : step.Move) → Through ss s → met_ago s ss ≡ 0
      → state_fine c s ≡ true → Through (s ∷ ss) (step.made s r m)
  through_next {ss} {s} r m came new fits =
      record {
        once = (drawn_new came new, came.once);
        few = (drawn_few s fits, came.few);
        buttons =
            subst (λ (p : ℕ). All (λ (t : State). t.pushed ≡ p) (s ∷ ss)) (sym (made_buttons s r m))
            (refl, came.buttons);
      }

  goes_spent : {ss : List State} {n : ℕ} {s : State} {x : Run} → RunGoes f c.relays ss n s x → Through ss s
      → state_fine c s ≡ true → IsSpent x.word → length ss + n < 2 ^ c.relays
  goes_spent (stops (met d was)) came fits never = absurd never
  goes_spent (stops (rested new e)) came fits never = absurd never
  goes_spent (stops (halted new e)) came fits never = absurd never
  goes_spent (stops (filled {ss = ss} {s = s} m new e)) came fits full =
      omega (
        arith,
        once-below-length (2 ^ c.relays) (s.drawn ∷ drawn_of ss) (drawn_new came new, came.once)
            (drawn_few s fits, came.few),
        length-map ss (λ (s : State). s.drawn),
      )
  goes_spent (moved {s = s} m r new e go) came fits full =
      omega (
        arith,
        goes_spent go (through_next r m came new fits)
            (made_fits c s r m fits (look_makes_below f s c.relays m r e)) full,
      )

  pub run_spent : (n : ℕ) (s : State) → state_fine c s ≡ true → (run_of f c.relays n s).word ≡ spent
      → n < 2 ^ c.relays
  run_spent n s fits is =
      omega (
        arith,
        goes_spent (run_goes f c.relays [] n s) (record { once = tt; few = tt; buttons = tt }) fits
            (subst IsSpent (sym is) tt),
      )

-- so no run ends spent whose log has room for 2 to the R moves
pub running-unspent : (b : Board) (h : Kept) (log : List ℕ) → 2 ^ b.counts.relays ≤ length log
    → (running b h log).word ≡ given spent → ⊥
unfolding ran
running-unspent b h log room says = by (runnable b h log) refl
  where
    by : (o : Outcome (Unit {0})) → runnable b h log ≡ o → ⊥
    by (given u) taken =
        let tells = ap (λ (x : told.Ran). x.word) (running_by b h log (given u) taken) ∙ says in
        let fits = (usable_given b h (runnable_given b h log taken)).1 in
        omega (
          arith,
          room,
          run_spent b.counts (step.step_of b) (length log) h.state fits (given_injective _ spent tells),
        )
    by (refused n p) off =
        refused_never n p spent (ap (λ (x : told.Ran). x.word) (running_by b h log (refused n p) off) ∙ says)
