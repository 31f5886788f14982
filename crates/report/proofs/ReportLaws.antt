-- Laws of a report as a call, for the proofs of its functions: when nothing stands against it, what it tells by what
-- does, and that an answer is known by what it tells; the figures of one setting's run, and of both ways of a button.
use Prim.Native.Nat.{ℕ, suc, ◌-◌, ◌^◌, ◌≤◌}
use native.Mathlib.Omega.{arith}
use native.Mathlib.Nat.{pow-le-pow_right}
use mathlib.Core.Path.{◌≡◌, refl, sym, ap, ◌∙◌}
use mathlib.Core.Bool.{true, false}
use Rattle.std.specs.Prelude.{Result, Ok, Err}
use mathlib.Core.List.{List, [], ◌∷◌}
use lib.Dec.{leb}
use lib.ListN.{length, take}
use lib.Seq.{length-take-le}
use borrow.Author.Tests.{leb-true}
use Rattle.refusals.specs.declared.Refusal.{Refusal}
use Rattle.refusals.specs.declared.No.TheVariants.{LogTooLong, BrokenBoard, TooManyButtons}
use Rattle.refusals.specs.Outcomes.{Outcome, given, refused, told}
use Rattle.refusals.specs.Refusals.{number_of, broken_board, log_too_long, too_many_buttons}
use Rattle.refusals.specs.Order.{first_no, answering}
use Rattle.refusals.proofs.OrderLaws.{first_holds, StandsAgainst, answering-stands}
use Rattle.refusals.proofs.Tabled.{Tabled, tabled_given, TabledLines, tabled_lines, Tells, result-tells, beside-tells}
use Rattle.lists.specs.Members.{All}
use Rattle.board.specs.declared.Board.{Board}
use Rattle.board.specs.Rules.{board_fine}
use Rattle.state.specs.declared.State.{State}
use Rattle.state.specs.States.{fresh_state, with_pushed}
use Rattle.state.proofs.StateLaws.{fresh_fits, state_fits_push}
use Rattle.kept.specs.declared.Kept.{Kept}
use Rattle.kept.specs.Kept.{kept_at}
use Rattle.kept.proofs.KeptLaws.{usable_fine}
use Rattle.runs.specs.declared.Ran.{Ran}
use Rattle.runs.specs.Runs.{Run}
use Rattle.runs.specs.Running.{longest_log, ran, run_on, ran_over, running, told_ending, told_ran, Runs}
use Rattle.runs.proofs.RunningLaws.{runnable_log, running_by}
use Rattle.report.specs.declared.Figures.{Figures}
use Rattle.report.specs.Settings.{most_reported, all_runs}
use Rattle.report.specs.Figures.{moves_in, figures_of, no_figures}
use Rattle.report.specs.BothWays.{both_ways, CanSet, one_run, followed, Within}
use Rattle.report.specs.Reporting.{report_lines, reportable, reporting, told_reported}
use Rattle.report.proofs.FigureLaws.{figures-followed, one_run-figures, figures-within}
use Rattle.report.proofs.SettingLaws.{both_ways-length, both_ways_all, all_runs-both_ways, run_room}

module _ (b : Board) (n : ℕ) where
  -- its lines one after the other
  pub reportable_broken : board_fine b ≡ false → reportable b n ≡ refused broken_board 0
  unfolding reportable first_no
  reportable_broken broken = rw broken refl

  module _ (sound : board_fine b ≡ true) where
    pub reportable_long : leb n longest_log ≡ false → reportable b n ≡ refused log_too_long 0
    unfolding reportable first_no
    reportable_long long = rw (sound, long) refl

    module _ (short : leb n longest_log ≡ true) where
      pub reportable_many : leb b.counts.buttons most_reported ≡ false → reportable b n ≡ refused too_many_buttons 0
      unfolding reportable first_no
      reportable_many many = rw (sound, short, many) refl

      pub reportable_all : leb b.counts.buttons most_reported ≡ true → reportable b n ≡ given tt
      unfolding reportable first_no
      reportable_all few = rw (sound, short, few) refl

  -- where nothing stands against it, all settings can be made
  pub reportable_can : reportable b n ≡ given tt → CanSet b (fresh_state b) b.counts.buttons n
  unfolding reportable
  reportable_can taken =
      let board = first_holds (board_fine b) broken_board _ taken in
      let long = first_holds (leb n longest_log) log_too_long _ board.1 in
      let many = first_holds (leb b.counts.buttons most_reported) too_many_buttons _ long.1 in
      record {
        fine = board.0;
        fits = fresh_fits b board.0;
        own = omega arith;
        few = leb-true b.counts.buttons most_reported many.0;
        short = leb-true n longest_log long.0;
      }

  -- what the call tells goes by what stands against it
  pub reporting_by : (o : Outcome (Unit {0})) → reportable b n ≡ o
      → answering o (λ k p. (no_figures, refused k p)) (λ u. (figures_of (all_runs b n), given tt)) ≡ reporting b n
  unfolding reporting
  reporting_by o e = rw e refl

  -- what stands against it is the first of its lines whose test fails, and a refused report is all zeros
  pub report-stands : StandsAgainst (λ x. x.1) (λ x. x.0 ≡ no_figures) (first_no (report_lines b n)) (reporting b n)
  unfolding reporting reportable
  report-stands = answering-stands _ _ _ _ (λ k p. (refl, refl)) refl (first_no (report_lines b n))

  -- and a log that is long enough can be cut to the length
  pub log_cut : reportable b n ≡ given tt → (log : List ℕ) → longest_log ≤ length log
      → (n ≤ length log) × (length (take n log) ≡ n)
  log_cut taken log room =
      let within : n ≤ length log = omega (arith, (reportable_can taken).short, room) in
      (within, length-take-le n log within)

  -- for the proof of `report`
  module _ (x : Figures) (a : Result Unit Refusal) (asked : told a ≡ reportable b n) where
    pub reported_all : (u : Unit {0}) → a ≡ Ok u → x ≡ figures_of (all_runs b n)
        → told_reported (record { figures = x; answer = a }) ≡ reporting b n
    reported_all u nothing is =
        rw (is, nothing) (reporting_by (given tt) (sym asked ∙ ap told nothing))

    pub reported_none : (q : Refusal) → a ≡ Err q → x ≡ no_figures
        → told_reported (record { figures = x; answer = a }) ≡ reporting b n
    reported_none q off is =
        rw (is, off) (reporting_by (refused (number_of q.no) q.place) (sym asked ∙ ap told off))

  -- both ways of every button, from the start state, are all settings
  pub all_reported : reportable b n ≡ given tt → (s : State) (m : ℕ) (x : Figures) → s ≡ fresh_state b → m ≡ n
      → x ≡ figures_of (both_ways (run_on b m) b.counts.buttons s) → x ≡ figures_of (all_runs b n)
  all_reported taken s m x fresh same is =
      let few = (reportable_can taken).few in
      rw (is, fresh, same) (ap figures_of (all_runs-both_ways b n (omega (arith, few))))

-- ---- one button set after the other

module _ (b : Board) (s : State) (k n : ℕ) (can : CanSet b s k n) where
  pub can_set_fewer : (j : ℕ) → j ≤ k → CanSet b s j n
  can_set_fewer j fewer = record {
    fine = can.fine;
    fits = can.fits;
    own = omega (arith, can.own);
    few = omega (arith, can.few);
    short = can.short;
  }

  pub can_set_on : ¬ (k ≡ 0) → (j : ℕ) (t : State) (m : ℕ) → j ≡ k - 1 → t ≡ with_pushed s j → m ≡ n
      → CanSet b t (k - 1) m
  can_set_on some j t m at pushed same = record {
    fine = can.fine;
    fits = rw pushed (state_fits_push b.counts s j can.fits (omega (arith, some, at, can.own)));
    own = omega (arith, can.own);
    few = omega (arith, can.few);
    short = omega (arith, same, can.short);
  }

-- ---- the figures of one setting's run

pub one_run-told : (b : Board) (s : State) (h : Kept) (log : List ℕ) (a : Ran) (l : List ℕ)
    → CanSet b s 0 (length log) → h ≡ kept_at b s → Runs b h log a l
    → one_run (told_ending a.word) a.moves ≡ figures_of (run_on b (length log) s ∷ [])
unfolding ran
one_run-told b s h log a l can own told =
    let taken = runnable_log b (kept_at b s) log (usable_fine b s can.fine can.fits) can.short in
    let tells : told_ran a l ≡ ran_over b (kept_at b s) log =
    told ∙ ap (λ (k : Kept). running b k log) own ∙ sym (running_by b (kept_at b s) log (given tt) taken) in
    (λ i. one_run (tells i).word (tells i).moves) ∙ one_run-figures (run_on b (length log) s)

-- ---- both ways of a button

module _ (b : Board) (s : State) (k n : ℕ) where
  pub both_ways_one : k ≡ 0 → figures_of (run_on b n s ∷ []) ≡ figures_of (both_ways (run_on b n) k s)
  unfolding both_ways
  both_ways_one none = rw none

  pub both_ways-followed : ¬ (k ≡ 0) → (j : ℕ) (t : State) (m : ℕ) → j ≡ k - 1 → t ≡ with_pushed s j → m ≡ n
      → (x y : Figures) → x ≡ figures_of (both_ways (run_on b n) (k - 1) s)
      → y ≡ figures_of (both_ways (run_on b m) (k - 1) t)
      → followed x y ≡ figures_of (both_ways (run_on b n) k s)
  unfolding both_ways
  both_ways-followed some j t m at pushed same x y off on =
      let next : k ≡ suc j = omega (arith, some, at) in
      rw (off, on, sym at, pushed, same, next)
      (figures-followed (both_ways (run_on b n) j s) (both_ways (run_on b n) j (with_pushed s j)))

  pub both_ways-within : CanSet b s k n → (x : Figures) → x ≡ figures_of (both_ways (run_on b n) k s)
      → Within (2 ^ 32) x
  both_ways-within can x is = rw is (figures-within (both_ways (run_on b n) k s) many all)
    where
      many : length (both_ways (run_on b n) k s) ≤ 2 ^ most_reported
      many =
          omega (
            arith,
            both_ways-length (run_on b n) k s,
            pow-le-pow_right {n = 2} (omega arith) {i = k} {j = most_reported} can.few,
          )

      all : All (λ (x : Run). moves_in x ≤ longest_log) (both_ways (run_on b n) k s)
      all =
          both_ways_all (run_on b n) (λ (x : Run). moves_in x ≤ longest_log)
          (λ t. omega (arith, run_room b n t, can.short)) k s

-- ---- answers and what they tell

pub reported-tells : Tells {B = Figures × Outcome (Unit {0})} (λ y. Tabled y.1) told_reported
reported-tells =
    beside-tells told result-tells (λ (f : Figures) a. record { figures = f; answer = a })
    (λ r. r.figures) (λ r. r.answer) (λ r. refl) (λ f a. refl)

-- what a report can be refused by stands in the table
pub reporting-tabled : (b : Board) (n : ℕ) → Tabled (reporting b n).1
unfolding reportable reporting TabledLines
reporting-tabled b n =
    by (first_no (report_lines b n))
    (tabled_lines (report_lines b n) ((BrokenBoard, refl), ((LogTooLong, refl), ((TooManyButtons, refl), tt))))
  where
    by : (o : Outcome (Unit {0})) → Tabled o
        → Tabled (answering {A = Figures × Outcome (Unit {0})} o (λ k p. (no_figures, refused k p))
        (λ u. (figures_of (all_runs b n), given tt))).1
    by (given u) tabled = tabled_given tt
    by (refused k p) tabled = tabled
