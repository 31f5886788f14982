-- Two runs of one row of relays, the second with no less room: the second goes on from the first. Nothing here knows
-- what is below a step.
use Prim.Native.Nat.{ℕ, zero, suc, ◌≤◌}
use native.Mathlib.Omega.{arith}
use mathlib.Core.Path.{◌≡◌, refl, sym, ap, ◌∙◌}
use mathlib.Core.List.{List, [], ◌∷◌, append-nil}
use Rattle.state.specs.declared.State.{State}
use Rattle.runs.specs.Looks.{Stepper, byte_of}
use Rattle.runs.specs.Runs.{Ending, idle, spent, conflict, buzz, Run, logged, run_from}
use Rattle.runs.proofs.RunLaws.{RunStops, met, rested, halted, filled, RunGoes, stops, moved, run_goes, goes_run}
use Rattle.runs_means.specs.LongerRuns.{IsStart}

-- a run that ends with this word is the same with more room
abbrev pub Final : Ending → Type 0
Final idle = Unit {0}
Final conflict = Unit {0}
Final buzz = Unit {0}
Final spent = ⊥

-- the run y starts with every move of x, and is the same run where x's word is final
pub record GoesOn (x y : Run) : Type 0 where
  pub starts : IsStart x.bytes y.bytes
  pub stands : Final x.word → y ≡ x

-- ---- a run

goes_on-same : (x y : Run) → y ≡ x → GoesOn x y
goes_on-same x y same =
    record {
      starts = record { rest = []; whole = ap (λ (z : Run). z.bytes) same ∙ sym (append-nil x.bytes) };
      stands = λ final. same;
    }

goes_on-logged : (c : ℕ) (x y : Run) → GoesOn x y → GoesOn (logged c x) (logged c y)
goes_on-logged c x y on =
    record {
      starts = record { rest = on.starts.rest; whole = ap (◌∷◌ c) on.starts.whole };
      stands = λ final. ap (logged c) (on.stands final);
    }

-- ---- the second run goes on from the first

module _ (f : Stepper) (k : ℕ) where
  goes_on_stops : {ss : List State} {n : ℕ} {s : State} {x : Run} → RunStops f k ss n s x → (m : ℕ)
      → GoesOn x (run_from f k ss m s)
  goes_on_stops (met d was) m = goes_on-same _ _ (goes_run (stops (met d was)))
  goes_on_stops (rested new e) m = goes_on-same _ _ (goes_run (stops (rested new e)))
  goes_on_stops (halted new e) m = goes_on-same _ _ (goes_run (stops (halted new e)))
  goes_on_stops (filled mv new e) m =
      record { starts = record { rest = _; whole = refl }; stands = λ never. absurd never }

  goes_on : {ss : List State} {n : ℕ} {s : State} {x : Run} → RunGoes f k ss n s x → (m : ℕ) → n ≤ m
      → GoesOn x (run_from f k ss m s)
  goes_on (stops why) m more = goes_on_stops why m
  goes_on (moved mv r new e on) zero more = absurd (omega arith)
  goes_on (moved mv r new e on) (suc m) more =
      rw (goes_run (moved mv r new e (run_goes f k _ m _)))
      (goes_on-logged (byte_of r mv) _ _ (goes_on on m (omega arith)))

  pub run-goes_on : (ss : List State) (n m : ℕ) (s : State) → n ≤ m → GoesOn (run_from f k ss n s) (run_from f k ss m s)
  run-goes_on ss n m s more = goes_on (run_goes f k ss n s) m more
