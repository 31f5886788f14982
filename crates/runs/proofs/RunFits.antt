-- A run leaves a state that fits the board if it was given one: each move is of a relay that the look was at, and those
-- are the board's.
use Prim.Native.Nat.{ℕ, zero, suc, ◌+◌, ◌<◌, ◌≤◌}
use native.Mathlib.Omega.{arith}
use mathlib.Core.Path.{◌≡◌, subst}
use mathlib.Core.Bool.{true}
use mathlib.Core.List.{List, []}
use Rattle.board.specs.declared.Counts.{Counts}
use Rattle.state.specs.declared.State.{State}
use Rattle.state.specs.States.{state_fine}
use Rattle.moves.specs.Steps as step
use Rattle.moves.proofs.StepLaws.{made_fits}
use Rattle.runs.specs.Looks.{Stepper, Look, quiet, halts, makes, decides, look_from}
use Rattle.runs.specs.Runs.{Run, run_of}
use Rattle.runs.proofs.RunLaws.{RunGoes, stops, moved, run_goes, stops_still}

-- ---- the relay that moves is one of the k that were looked at

abbrev MovesBelow : ℕ → Look → Type 0
MovesBelow k quiet = Unit {0}
MovesBelow k (halts r) = Unit {0}
MovesBelow k (makes m r) = r < k

decides_below : (k : ℕ) (m : step.Move) (r : ℕ) (next : Look) → r < k → MovesBelow k next
    → MovesBelow k (decides m r next)
decides_below k step.drew r next here later = here
decides_below k step.dropped r next here later = here
decides_below k step.rests r next here later = later
decides_below k step.conflict r next here later = tt

look-below : (f : Stepper) (s : State) (k n r : ℕ) → r + n ≤ k → MovesBelow k (look_from f s n r)
unfolding look_from
look-below f s k zero r most = tt
look-below f s k (suc n) r most =
    decides_below k (f s r) r (look_from f s n (suc r)) (omega arith) (look-below f s k n (suc r) (omega arith))

pub look_makes_below : (f : Stepper) (s : State) (k : ℕ) (m : step.Move) (r : ℕ) → look_from f s k 0 ≡ makes m r → r < k
look_makes_below f s k m r is = subst (MovesBelow k) is (look-below f s k k 0 (omega arith))

-- ---- the run

module _ (c : Counts) (f : Stepper) where
  goes_fits : {ss : List State} {n : ℕ} {s : State} {x : Run} → RunGoes f c.relays ss n s x
      → state_fine c s ≡ true → state_fine c x.state ≡ true
  goes_fits (stops why) fits = rw (stops_still why).1 fits
  goes_fits (moved {s = s} m r new e on) fits =
      goes_fits on (made_fits c s r m fits (look_makes_below f s c.relays m r e))

  pub run_fits : (n : ℕ) (s : State) → state_fine c s ≡ true → state_fine c (run_of f c.relays n s).state ≡ true
  run_fits n s fits = goes_fits (run_goes f c.relays [] n s) fits
