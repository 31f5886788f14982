-- The course that the loops of `course::follow` take: what the run's loop holds after some moves, what the scan holds
-- at a relay, and one law for each way on and each way out. The stepper is any whose moves turn their relay: nothing
-- here knows what is below a step.
use Prim.Native.Nat.{ℕ, zero, suc, ◌+◌, ◌-◌, ◌<◌, ◌≤◌}
use native.Mathlib.Omega.{arith}
use mathlib.Core.Path.{◌≡◌, refl, sym, ap, subst, ◌∙◌}
use mathlib.Core.Bool.{Bool}
use mathlib.Core.List.{List, [], ◌∷◌, ◌++◌}
use Rattle.std.specs.Prelude.{Some, None}
use lib.ListN.{length, drop, set, length-set}
use lib.Seq.{sets, sets-eq}
use Rattle.bits.specs.Sets as sets_of
use Rattle.refusals.specs.Outcomes.{given}
use Rattle.state.specs.declared.State.{State}
use Rattle.state.specs.States.{is_drawn}
use Rattle.kept.specs.declared.Kept.{Kept}
use Rattle.moves.specs.Steps as step
use Rattle.moves.proofs.MoveLaws.{Turns}
use Rattle.runs.specs.Looks.{Stepper, Look, makes, decides, byte_of, look_from}
use Rattle.runs.specs.Runs.{Ending, idle, spent, conflict, buzz, no_relay, Run, met_ago, logged, run_from, run_of}
use Rattle.runs.specs.LookingBack.{back_from, ago_of, with_notch}
use Rattle.runs.specs.Running.{Ran, ran}
use Rattle.runs.proofs.LookLaws.{look_quiet, look-decides}
use Rattle.runs.proofs.RunLaws.{met, rested, halted, filled, RunGoes, stops, moved, run_goes, goes_run}
use Rattle.runs.proofs.RunLaws.{goes-room}
use Rattle.runs.proofs.BackLaws.{Moving, Trail, begun, trail-length, trail-moves, back_met, ago_met, ago_none}
use Rattle.runs.proofs.NotchLaws.{notching-length, Covered, covered_on}

-- what is told of a run that logged its first m moves and goes on as x, with the sets that `keep` has for its state
abbrev onward : (State → Kept) → List ℕ → ℕ → Run → Ran
onward keep log m x =
    record {
      word = given x.word;
      moves = m + length x.bytes;
      kept = keep x.state;
      relay = x.relay;
      earlier = x.earlier;
      between = x.between;
      log = sets log m x.bytes;
    }

-- what is told of a run that ends after m moves with the word w, and met its state after i moves, d moves ago
abbrev pub stopped : Ending → ℕ → ℕ → ℕ → Kept → ℕ → List ℕ → Ran
stopped w i d m h r log =
    record { word = given w; moves = m; kept = h; relay = r; earlier = i; between = d; log = log }

-- after m moves, with this log and h kept, `all` is still what is told of the whole run, which came through some states
-- that the log leads through and the notches cover, and the sets of h are those that `keep` has for its state
pub record Course (f : Stepper) (keep : State → Kept) (k : ℕ) (all : Ran) (room words : ℕ) (log notches : List ℕ)
    (m : ℕ) (h : Kept) : Type 0 where
  pub long : length log ≡ room
  pub within : m ≤ room
  pub own : h ≡ keep h.state
  pub came : List State
  pub trail : Trail log m h.state came
  pub many : length notches ≡ words
  pub covered : Covered notches came
  pub goes : all ≡ onward keep log m (run_from f k came (room - m) h.state)

-- at relay r of the scan: nothing has changed since it began, looking back met nothing, what g lets see of a relay,
-- drawn or not, is its step, and the look from 0 is the look from r
pub record ScanSoFar (f : Stepper) (g : ℕ → Bool → step.Move) (k : ℕ) (log₀ : List ℕ) (m₀ : ℕ) (h₀ : Kept)
    (log : List ℕ) (m : ℕ) (h : Kept) (r : ℕ) : Type 0 where
  pub same_log : log₀ ≡ log
  pub same_moves : m₀ ≡ m
  pub same_kept : h₀ ≡ h
  pub unmet : back_from log₀ m₀ h₀.state.drawn m₀ h₀.state.drawn ≡ 0
  pub seen : (q : ℕ) → q < k → g q (is_drawn h₀.state q) ≡ f h₀.state q
  pub look : look_from f h.state k 0 ≡ look_from f h.state (k - r) r

ran-onward : (keep : State → Kept) (x : Run) (log : List ℕ) → length x.bytes ≤ length log
    → ran keep x log ≡ onward keep log 0 x
unfolding ran
ran-onward keep x log room =
    let none : length x.bytes ≡ 0 + length x.bytes = omega arith in
    let after = ap (λ (n : ℕ). x.bytes ++ drop n log) none ∙ sym (sets-eq x.bytes log 0 (omega arith)) in
    λ i. record {
      word = given x.word;
      moves = none i;
      kept = keep x.state;
      relay = x.relay;
      earlier = x.earlier;
      between = x.between;
      log = after i;
    }

pub course_starts : (f : Stepper) (keep : State → Kept) (k words : ℕ) (log notches : List ℕ) (h : Kept)
    → h ≡ keep h.state → length notches ≡ words
    → Course f keep k (ran keep (run_of f k (length log) h.state) log) (length log) words log notches 0 h
course_starts f keep k words log notches h own many =
    let whole : length log ≡ length log - 0 = omega arith in
    record {
      long = refl;
      within = omega arith;
      own = own;
      came = [];
      trail = begun;
      many = many;
      covered = tt;
      goes =
          ran-onward keep (run_of f k (length log) h.state) log (goes-room (run_goes f k [] (length log) h.state))
          ∙ ap (λ (n : ℕ). onward keep log 0 (run_of f k n h.state)) whole;
    }

pub scan_starts : (f : Stepper) (g : ℕ → Bool → step.Move) (k : ℕ) (log : List ℕ) (m : ℕ) (h : Kept)
    → None ≡ ago_of (back_from log m h.state.drawn m h.state.drawn)
    → ((q : ℕ) → q < k → g q (is_drawn h.state q) ≡ f h.state q) → ScanSoFar f g k log m h log m h 0
scan_starts f g k log m h unmet seen =
    let whole : k ≡ k - 0 = omega arith in
    record {
      same_log = refl;
      same_moves = refl;
      same_kept = refl;
      unmet = ago_none _ (sym unmet);
      seen = seen;
      look = ap (λ (n : ℕ). look_from f h.state n 0) whole;
    }

onward-logged : (keep : State → Kept) (log : List ℕ) (m c : ℕ) (x : Run)
    → onward keep log m (logged c x) ≡ onward keep (set log m c) (m + 1) x
onward-logged keep log m c x =
    let sum : m + suc (length x.bytes) ≡ m + 1 + length x.bytes = omega arith in
    let next : suc m ≡ m + 1 = omega arith in
    λ i. record {
      word = given x.word;
      moves = sum i;
      kept = keep x.state;
      relay = x.relay;
      earlier = x.earlier;
      between = x.between;
      log = sets (set log m c) (next i) x.bytes;
    }

moving_makes : (mv : step.Move) (r : ℕ) (next : Look) → Moving mv → decides mv r next ≡ makes mv r
moving_makes step.drew r next moves = refl
moving_makes step.dropped r next moves = refl
moving_makes step.rests r next never = absurd never
moving_makes step.conflict r next never = absurd never

-- a course whose run makes no further move is told as it stops
course-ends : {f : Stepper} {keep : State → Kept} {k : ℕ} {all : Ran} {room words m : ℕ} {log notches : List ℕ}
    {h : Kept} {w : Ending} {i d q : ℕ} (here : Course f keep k all room words log notches m h)
    → RunGoes f k here.came (room - m) h.state
    (record { word = w; bytes = []; state = h.state; relay = q; earlier = i; between = d })
    → stopped w i d m h q log ≡ all
course-ends {keep = keep} {m = m} {log = log} {h = h} {w = w} {i = i} {d = d} {q = q} here why =
    let none : m + 0 ≡ m = omega arith in
    sym (here.goes ∙ ap (onward keep log m) (goes_run why)
    ∙ ap (λ (n : ℕ). stopped w i d n (keep h.state) q log) none
    ∙ ap (λ (j : Kept). stopped w i d m j q log) (sym here.own))

-- looking back met the state d moves ago
pub course_buzz : {f : Stepper} {keep : State → Kept} {k : ℕ} {all : Ran} {room words m : ℕ} {log notches : List ℕ}
    {h : Kept} {d : ℕ} → Course f keep k all room words log notches m h
    → Some d ≡ ago_of (back_from log m h.state.drawn m h.state.drawn)
    → stopped buzz (m - d) d m h no_relay log ≡ all
course_buzz {d = zero} here found =
    let met_it = ago_met _ (sym found) in
    absurd (met_it.1 (sym met_it.0))
course_buzz {f = f} {k = k} {room = room} {m = m} {log = log} {h = h} {d = suc d} here found =
    let was = (ago_met _ (sym found)).0 in
    course-ends here
    (subst (λ (n : ℕ). RunGoes f k here.came (room - m) h.state (buzzing n)) (trail-length here.trail)
    (stops (met d (sym (was ∙ back_met log m h.state here.came here.trail)))))
  where
    buzzing : ℕ → Run
    buzzing n =
        record { word = buzz; bytes = []; state = h.state; relay = no_relay; earlier = n - suc d; between = suc d }

module _ {f : Stepper} {g : ℕ → Bool → step.Move} {k : ℕ} {log₀ log : List ℕ} {m₀ m : ℕ} {h₀ h : Kept} {r : ℕ}
    (scan : ScanSoFar f g k log₀ m₀ h₀ log m h r) where
  -- the relay that is looked at, as number q and at place p, drawn if d, is seen to come to mv
  stepped : {mv : step.Move} {q p : ℕ} {d : Bool} → r < k → q ≡ r → p ≡ r → d ≡ is_drawn h₀.state q → mv ≡ g p d
      → mv ≡ f h.state r
  stepped {d = d} below number place drawn is =
      is ∙ ap (λ (n : ℕ). g n d) place ∙ ap (g r) (drawn ∙ ap (is_drawn h₀.state) number) ∙ scan.seen r below
      ∙ ap (λ (j : Kept). f j.state r) scan.same_kept

  -- and it decides
  decided : {mv : step.Move} {q p : ℕ} {d : Bool} → r < k → q ≡ r → p ≡ r → d ≡ is_drawn h₀.state q → mv ≡ g p d
      → look_from f h.state k 0 ≡ decides mv r (look_from f h.state (k - (r + 1)) (r + 1))
  decided below number place drawn is =
      scan.look ∙ look-decides f h.state k r _ below (stepped below number place drawn is)

  pub scan_rests : {mv : step.Move} {q p : ℕ} {d : Bool} → r < k → q ≡ r → p ≡ r → d ≡ is_drawn h₀.state q
      → mv ≡ g p d → mv ≡ step.rests → ScanSoFar f g k log₀ m₀ h₀ log m h (r + 1)
  scan_rests below number place drawn is rests =
      record {
        same_log = scan.same_log;
        same_moves = scan.same_moves;
        same_kept = scan.same_kept;
        unmet = scan.unmet;
        seen = scan.seen;
        look = decided below number place drawn (sym rests ∙ is);
      }

  module _ {keep : State → Kept} {all : Ran} {room words : ℕ} {notches : List ℕ}
      (course : Course f keep k all room words log₀ notches m₀ h₀) where
    here : Course f keep k all room words log notches m h
    here = rw (sym scan.same_log, sym scan.same_moves, sym scan.same_kept) course

    -- the state was not met
    new : met_ago h.state here.came ≡ 0
    new =
        sym (back_met log m h.state here.came here.trail)
        ∙ rw (sym scan.same_log, sym scan.same_moves, sym scan.same_kept) scan.unmet

    pub course_idle : k ≤ r → stopped idle 0 0 m h no_relay log ≡ all
    course_idle past = course-ends here (stops (rested new (scan.look ∙ look_quiet f h.state k r past)))

    module _ {mv : step.Move} {q p : ℕ} {d : Bool} (below : r < k) (number : q ≡ r) (place : p ≡ r)
        (drawn : d ≡ is_drawn h₀.state q) (is : mv ≡ g p d) where
      pub course_conflict : mv ≡ step.conflict → stopped conflict 0 0 m h r log ≡ all
      course_conflict e = course-ends here (stops (halted new (decided below number place drawn (sym e ∙ is))))

      moves_here : Moving mv → look_from f h.state k 0 ≡ makes mv r
      moves_here move = decided below number place drawn is ∙ moving_makes mv r _ move

      pub course_spent : Moving mv → length log ≤ m → stopped spent 0 0 m h r log ≡ all
      course_spent move full =
          let none : room - m ≡ 0 = omega (arith, here.long, full) in
          course-ends here (rw none (stops (filled mv new (moves_here move))))

      -- the move is made and logged, and leaves t kept
      module _ (keeps : (s : State) → (keep s).state ≡ s) (fits : r < sets_of.room)
          (turns : (s : State) → Turns (is_drawn s r) (f s r)) {t : Kept} {n : ℕ} (same : n ≡ r)
          (leaves : h ≡ keep h.state → t ≡ keep (step.made h.state n mv)) where
        left-kept : t ≡ keep (step.made h.state r mv)
        left-kept = leaves here.own ∙ ap (λ (x : ℕ). keep (step.made h.state x mv)) same

        left_state : t.state ≡ step.made h.state r mv
        left_state = ap (λ (j : Kept). j.state) left-kept ∙ keeps (step.made h.state r mv)

        pub course-moves : {c : ℕ} {notches' : List ℕ} → Moving mv → m < length log → c ≡ byte_of r mv → 0 < words
            → notches' ≡ with_notch notches h₀.state.drawn
            → Course f keep k all room words (set log m c) notches' (m + 1) t
        course-moves {c} {notches'} move free byte some notches-are =
            let left : m < room = omega (arith, here.long, free) in
            let notches-now = notches-are ∙ ap (λ (j : Kept). with_notch notches j.state.drawn) scan.same_kept in
            let more : room - m ≡ suc (room - (m + 1)) = omega arith in
            let next : suc m ≡ m + 1 = omega arith in
            let turned =
            subst (Turns (is_drawn h.state r)) (sym (stepped below number place drawn is)) (turns h.state) in
            let trail = trail-moves r mv c fits turned move byte free here.trail in
            record {
              long = length-set log m c ∙ here.long;
              within = omega arith;
              own = left-kept ∙ ap keep (sym left_state);
              came = h.state ∷ here.came;
              trail = rw (← next, left_state) trail;
              many = notching-length notches h.state.drawn notches-now here.many;
              covered =
                  subst (λ (ns : List ℕ). Covered ns (h.state ∷ here.came)) (sym notches-now)
                  (covered_on notches h.state here.came (omega (arith, some, here.many)) here.covered);
              goes =
                  here.goes
                  ∙ ap (onward keep log m) (ap (λ (n : ℕ). run_from f k here.came n h.state) more
                  ∙ goes_run (moved mv r new (moves_here move) (run_goes f k _ (room - (m + 1)) _)))
                  ∙ onward-logged keep log m (byte_of r mv)
                  (run_from f k (h.state ∷ here.came) (room - (m + 1)) (step.made h.state r mv))
                  ∙ rw (byte, left_state) refl;
            }
