-- A run in the light of other orders, on relays that move as any stepper says: where every move of the run is one that
-- counts as a move, and no relay is in conflict, it comes nearer by each of its moves to the end that some order
-- reaches. So it meets no state twice, and with room for the moves it ends there.
use Prim.Native.Nat.{ℕ, suc, ◌<◌, ◌≤◌}
use native.Mathlib.Omega.{arith}
use mathlib.Core.Path.{◌≡◌, refl, sym, ap}
use mathlib.Core.List.{List, [], ◌∷◌}
use lib.ListN.{length}
use Rattle.lists.specs.Members.{All}
use Rattle.lists.proofs.MemberLaws.{all-member, all_map}
use Rattle.state.specs.declared.State.{State}
use Rattle.moves.specs.Steps as step
use Rattle.runs.specs.Looks.{Stepper, quiet, halts, makes, look_from}
use Rattle.runs.specs.Runs.{idle, Run, run_of}
use Rattle.runs.proofs.RunLaws.{met, rested, halted, filled, RunGoes, stops, moved, run_goes, stops_still}
use Rattle.runs_means.specs.Following.{Movement, Follows}
use Rattle.runs_means.proofs.CameLaws.{met-among}
use Rattle.runs_means.proofs.OrderLaws.{Swaps, Still, Away, still_away, end_nearer, end_unique}

-- the run x ends idle in state u after n moves
abbrev pub EndsIdle : Run → State → ℕ → Type 0
EndsIdle x u n = (x.word ≡ idle) × (length x.bytes ≡ n) × (x.state ≡ u)

module _ (M : Movement) (P : State → Type 0) (swaps : Swaps M P) (f : Stepper) (k : ℕ)
    (looks : (s : State) (m : step.Move) (r : ℕ) → P s → look_from f s k 0 ≡ makes m r → M s r (step.made s r m)) where
  -- the moves of a run are moves
  goes_away : {ss : List State} {room : ℕ} {s : State} {x : Run} → RunGoes f k ss room s x → P s
      → Away M s x.state (length x.bytes)
  unfolding Follows
  goes_away (stops why) here =
      record { moves = []; leads = sym (stops_still why).1; long = sym (ap length (stops_still why).0) }
  goes_away (moved {s = s} m r new e on) here =
      let move = looks s m r here e in
      let away = goes_away on (swaps.holds_on s r _ here move) in
      record { moves = r ∷ away.moves; leads = (_, move, away.leads); long = ap suc away.long }

  pub run_away : (room : ℕ) (s : State) → P s → Away M s (run_of f k room s).state (length (run_of f k room s).bytes)
  run_away room s here = goes_away (run_goes f k [] room s) here

  module _ (rests : (s : State) → P s → look_from f s k 0 ≡ quiet → Still M s)
      (never_Halts : (s : State) (r : ℕ) → P s → ¬ (look_from f s k 0 ≡ halts r)) where
    -- the state t is more than n moves away from u
    abbrev Farther : State → ℕ → State → Type 0
    Farther u n t = (m : ℕ) × (n < m) × Away M t u m

    goes_idle : {ss : List State} {room : ℕ} {s : State} {x : Run} → RunGoes f k ss room s x → (u : State) (n : ℕ) → P s
        → Still M u → Away M s u n → n ≤ room → All (Farther u n) ss → EndsIdle x u n
    goes_idle (stops (met {ss = ss} {s = s} d was)) u n here still away fits far =
        let (m, more, also) = all-member (Farther u n) ss s far (met-among 1 d s ss was) in
        let same = end_unique M P swaps away.moves also.moves s u u here still still away.leads
        also.leads in
        absurd (omega (arith, more, same.0, away.long, also.long))
    goes_idle (stops (rested {s = s} new e)) u n here still away fits far =
        let (none, same) = still_away M s u n (rests s here e) away in (refl, sym none, same)
    goes_idle (stops (halted {s = s} {r = r} new e)) u n here still away fits far = absurd (never_Halts s r here e)
    goes_idle (stops (filled {s = s} {r = r} m new e)) u n here still away fits far =
        let (less, one, closer) = end_nearer M P swaps away.moves s _ u r here still (looks s m r here e)
        away.leads in
        absurd (omega (arith, one, away.long, fits))
    goes_idle (moved {ss = ss} {s = s} m r new e on) u n here still away fits far =
        let move = looks s m r here e in
        let (less, one, closer) = end_nearer M P swaps away.moves s _ u r here still move away.leads in
        let fewer : less < n = omega (arith, one, away.long) in
        let ended = goes_idle on u less (swaps.holds_on s r _ here move) still closer (omega (arith, fewer, fits)) (
          (n, fewer, away),
          all_map (Farther u n) (Farther u less) (λ t (m, more, also). (m, omega (arith, more, fewer), also)) ss far,
        ) in
        (ended.0, omega (arith, ended.1, one, away.long), ended.2)

    pub run_idle : (room : ℕ) (s u : State) (n : ℕ) → P s → Still M u → Away M s u n → n ≤ room
        → EndsIdle (run_of f k room s) u n
    run_idle room s u n here still away fits = goes_idle (run_goes f k [] room s) u n here still away fits tt
