-- A run by the ways it goes on: one case for each, and the two laws that a run is always one of them and that nothing
-- else is. Every law of runs goes by these cases, here and in later crates, and none by the definition's text.
use Prim.Native.Nat.{ℕ, zero, suc, ◌≤◌}
use native.Mathlib.Omega.{arith}
use mathlib.Core.Path.{◌≡◌, refl, ap}
use mathlib.Core.List.{List, [], ◌∷◌}
use lib.ListN.{length}
use Rattle.state.specs.declared.State.{State}
use Rattle.moves.specs.Steps.{Move, made}
use Rattle.runs.specs.Looks.{Stepper, Look, quiet, halts, makes, byte_of, look_from}
use Rattle.runs.specs.Runs.{idle, spent, conflict, no_relay, Run, ends, met_ago, buzzes, unless_met, settle, logged}
use Rattle.runs.specs.Runs.{run_from}

-- a run that came through these states to this one, with room for so many moves, stops there
pub data RunStops (f : Stepper) (k : ℕ) : List State → ℕ → State → Run → Type 0 where
  -- the state was met
  met : {ss : List State} {n : ℕ} {s : State} (d : ℕ) → met_ago s ss ≡ suc d
      → RunStops f k ss n s (buzzes ss s (suc d))
  -- every relay rests
  rested : {ss : List State} {n : ℕ} {s : State} → met_ago s ss ≡ 0 → look_from f s k 0 ≡ quiet
      → RunStops f k ss n s (ends idle s no_relay)
  -- a relay is in conflict
  halted : {ss : List State} {n : ℕ} {s : State} {r : ℕ} → met_ago s ss ≡ 0 → look_from f s k 0 ≡ halts r
      → RunStops f k ss n s (ends conflict s r)
  -- a move finds the log full
  filled : {ss : List State} {s : State} {r : ℕ} (m : Move) → met_ago s ss ≡ 0 → look_from f s k 0 ≡ makes m r
      → RunStops f k ss zero s (ends spent s r)

-- such a run: it stops there, or a move is made and logged and it goes on
pub data RunGoes (f : Stepper) (k : ℕ) : List State → ℕ → State → Run → Type 0 where
  stops : {ss : List State} {n : ℕ} {s : State} {x : Run} → RunStops f k ss n s x → RunGoes f k ss n s x
  moved : {ss : List State} {n : ℕ} {s : State} {x : Run} (m : Move) (r : ℕ) → met_ago s ss ≡ 0
      → look_from f s k 0 ≡ makes m r → RunGoes f k (s ∷ ss) n (made s r m) x
      → RunGoes f k ss (suc n) s (logged (byte_of r m) x)

module _ (f : Stepper) (k : ℕ) where
  -- one turn; a move is left to the room that there is
  turn_goes : (ss : List State) (n : ℕ) (s : State) (go : Move → ℕ → Run) (d : ℕ) → met_ago s ss ≡ d → (l : Look)
      → look_from f s k 0 ≡ l
      → ((m : Move) (r : ℕ) → met_ago s ss ≡ 0 → l ≡ makes m r → RunGoes f k ss n s (go m r))
      → RunGoes f k ss n s (unless_met d ss s (λ u. settle l s go))
  turn_goes ss n s go (suc d) was l e on = stops (met d was)
  turn_goes ss n s go zero new quiet e on = stops (rested new e)
  turn_goes ss n s go zero new (halts r) e on = stops (halted new e)
  turn_goes ss n s go zero new (makes m r) e on = on m r new refl

  pub run_goes : (ss : List State) (n : ℕ) (s : State) → RunGoes f k ss n s (run_from f k ss n s)
  unfolding run_from
  run_goes ss zero s =
      turn_goes ss zero s _ (met_ago s ss) refl (look_from f s k 0) refl (λ m r new e. stops (filled m new e))
  run_goes ss (suc n) s =
      turn_goes ss (suc n) s _ (met_ago s ss) refl (look_from f s k 0) refl
      (λ m r new e. moved m r new e (run_goes (s ∷ ss) n (made s r m)))

stops_run : {f : Stepper} {k n : ℕ} {ss : List State} {s : State} {x : Run} → RunStops f k ss n s x
    → run_from f k ss n s ≡ x
unfolding run_from
stops_run {n = zero} (met d was) = rw was refl
stops_run {n = suc n} (met d was) = rw was refl
stops_run {n = zero} (rested new e) = rw (new, e) refl
stops_run {n = suc n} (rested new e) = rw (new, e) refl
stops_run {n = zero} (halted new e) = rw (new, e) refl
stops_run {n = suc n} (halted new e) = rw (new, e) refl
stops_run (filled m new e) = rw (new, e) refl

pub goes_run : {f : Stepper} {k n : ℕ} {ss : List State} {s : State} {x : Run} → RunGoes f k ss n s x
    → run_from f k ss n s ≡ x
unfolding run_from
goes_run (stops why) = stops_run why
goes_run (moved m r new e on) = rw (new, e) (ap (logged (byte_of r m)) (goes_run on))

-- a run that stops makes no move
pub stops_still : {f : Stepper} {k n : ℕ} {ss : List State} {s : State} {x : Run} → RunStops f k ss n s x
    → (x.bytes ≡ []) × (x.state ≡ s)
stops_still (met d was) = (refl, refl)
stops_still (rested new e) = (refl, refl)
stops_still (halted new e) = (refl, refl)
stops_still (filled m new e) = (refl, refl)

-- a run makes no more moves than it has room for
pub goes-room : {f : Stepper} {k n : ℕ} {ss : List State} {s : State} {x : Run} → RunGoes f k ss n s x
    → length x.bytes ≤ n
goes-room (stops why) = omega (arith, ap length (stops_still why).0)
goes-room (moved m r new e on) = omega (arith, goes-room on)
