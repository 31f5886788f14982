-- The theorems of specs/AllSettings.antt: the figures of an accepted report are those of the table of all settings.
use Prim.Native.Nat.{ℕ, ◌^◌, ◌<◌, ◌≤◌}
use native.Mathlib.Omega.{arith}
use native.Mathlib.Nat.{pow-le-pow_right}
use mathlib.Core.Path.{◌≡◌, refl, sym, ap, ◌∙◌}
use mathlib.Core.Bool.{Bool, true, false}
use mathlib.Core.List.{List, [], ◌∷◌}
use lib.Dec.{leb}
use lib.ListN.{length, get_or}
use borrow.Author.Tests.{leb-true, leb-false, le-leb, lt-leb}
use Rattle.bits.proofs.SetLaws.{member_below, below-member}
use Rattle.bits.proofs.SumLaws.{set_is_sum}
use Rattle.lists.proofs.TableLaws.{table-length, table_at}
use Rattle.refusals.specs.Outcomes.{given, refused, told}
use Rattle.refusals.specs.Refusals.{broken_board, log_too_long, too_many_buttons}
use Rattle.refusals.specs.Order.{first_no, against}
use Rattle.refusals.proofs.OutcomeLaws.{refused_never}
use Rattle.refusals.proofs.OrderLaws.{against_itself}
use Rattle.board.specs.declared.Board.{Board}
use Rattle.board.specs.Rules.{board_fine}
use Rattle.state.specs.States.{fresh_state, state_fine}
use Rattle.state.proofs.StateLaws.{state_fits_members, members-state_fits, fresh_fits}
use Rattle.kept.specs.Kept.{kept_at}
use Rattle.kept.proofs.KeptLaws.{usable_fine}
use Rattle.moves.specs.Steps.{step_of}
use Rattle.runs.specs.Runs.{Ending, idle, conflict, buzz, Run}
use Rattle.runs.specs.Running.{longest_log}
use Rattle.runs.proofs.RunningLaws.{runnable_log}
use Rattle.runs_means.proofs.AnswerLaws.{accepted_ran, answer_word, answer-moves}
use Rattle.runs_means.proofs.ExtendLaws.{Final, GoesOn, run-goes_on}
use Rattle.report.specs.declared.Reported.{Reported}
use Rattle.report.specs.Settings.{most_reported, settings, start_at, run_at, all_runs}
use Rattle.report.specs.Figures.{moves_in, ended_with, most_moves, figures_of}
use Rattle.report.specs.Reporting.{report_lines, Reports}
use Rattle.report.proofs.ReportLaws.{reportable_can, reporting_by, report-stands}
use Rattle.report_means.specs.AllSettings.{EachFigure, EachRun}
use Rattle.report_means.specs.AllSettings.{TwentyExactly, RefusedZeros, SettingsCounted, AddUp, MostSays}
use Rattle.report_means.specs.AllSettings.{MostMoves, LargerLog}
use Rattle.report_means.proofs.GrowLaws.{words_add, ended_grows, total_grows, most_grows}
use Rattle.report_means.proofs.FirstMost.{first_inside, none_more, first_has, before_first}

pub each_figure : EachFigure
each_figure b n r told taken = λ i. ((told ∙ sym (reporting_by b n (given tt) taken)) i).0

-- ---- refusals

pub refused_zeros : RefusedZeros
refused_zeros b n r k p told is =
    (λ i. (told i).0) ∙ (report-stands b n).left k p ((λ i. (sym told i).1) ∙ is)

pub stands-against : (b : Board) (n : ℕ) (r : Reported) → Reports b n r
    → told r.answer ≡ first_no (report_lines b n)
stands-against b n r reports =
    sym (against_itself (told r.answer)) ∙ (λ i. against (reports i).1) ∙ (report-stands b n).first

module _ (b : Board) (n : ℕ) where
  -- 20 holds, and no line before it
  abbrev Twenty : Type 0
  Twenty = (board_fine b ≡ true) × (n ≤ longest_log) × (most_reported < b.counts.buttons)

  twenty_holds : first_no (report_lines b n) ≡ refused too_many_buttons 0 → Twenty
  unfolding first_no
  twenty_holds = by (board_fine b) (leb n longest_log) (leb b.counts.buttons most_reported) refl refl refl
    where
      by : (t u v : Bool) → board_fine b ≡ t → leb n longest_log ≡ u → leb b.counts.buttons most_reported ≡ v
          → first_no ((t, broken_board) ∷ (u, log_too_long) ∷ (v, too_many_buttons) ∷ []) ≡ refused too_many_buttons 0
          → Twenty
      by false u v fine short many e = let never : ◌≡◌ {A = ℕ} 15 20 = cc in absurd (omega (arith, never))
      by true false v fine short many e = let never : ◌≡◌ {A = ℕ} 13 20 = cc in absurd (omega (arith, never))
      by true true true fine short many e = absurd (refused_never too_many_buttons 0 tt (sym e))
      by true true false fine short many e =
          (fine, leb-true n longest_log short, leb-false b.counts.buttons most_reported many)

  twenty_given : Twenty → first_no (report_lines b n) ≡ refused too_many_buttons 0
  unfolding first_no
  twenty_given (fine, short, many) =
      rw (fine, le-leb n longest_log short, lt-leb b.counts.buttons most_reported many) refl

pub twenty_exactly : TwentyExactly
twenty_exactly b n r told =
    let against = stands-against b n r told in
    (λ is. twenty_holds b n (sym against ∙ is), λ has. against ∙ twenty_given b n has)

-- ---- the table of all settings

module _ (b : Board) (n : ℕ) where
  runs-length : length (all_runs b n) ≡ settings b
  unfolding all_runs
  runs-length = table-length (run_at b n) (settings b) 0

  runs-place : (k : ℕ) → k < settings b → get_or (all_runs b n) k (run_at b n 0) ≡ run_at b n k
  unfolding all_runs
  runs-place k inside = table_at (run_at b n) (settings b) k (run_at b n 0) inside

-- the start state with the buttons of a setting pushed fits the board
start_fits : (b : Board) (k : ℕ) → board_fine b ≡ true → k < settings b → state_fine b.counts (start_at b k) ≡ true
start_fits b k fine inside =
    members-state_fits b.counts (start_at b k) (record {
      drawn_below = (state_fits_members b.counts (fresh_state b) (fresh_fits b fine)).drawn_below;
      pushed_below = λ m is. member_below k b.counts.buttons m inside is;
    })

-- so its run is not refused, and answers what the table has
pub each_run : EachRun
each_run b n k a l taken inside x =
    let can = reportable_can b n taken in
    let h = kept_at b (start_at b k) in
    let fits = usable_fine b (start_at b k) can.fine (start_fits b k can.fine inside) in
    let runs = runnable_log b h x.log fits (omega (arith, x.long, can.short)) in
    let told = accepted_ran b h x.log a l x.runs runs in (
      answer_word (kept_at b) a l _ x.log told ∙ ap (λ (m : ℕ). given (run_at b m k).word) x.long,
      answer-moves (kept_at b) a l _ x.log told ∙ ap (λ (m : ℕ). moves_in (run_at b m k)) x.long,
    )

pub settings_counted : SettingsCounted
unfolding figures_of
settings_counted b n r told taken = rw (each_figure b n r told taken) (record {
  many = runs-length b n;
  alone = λ none. runs-length b n ∙ ap (λ (k : ℕ). 2 ^ k) none;
  sum = λ k inside. set_is_sum b.counts.buttons k (rw (sym (runs-length b n)) inside);
  every = λ k. (
    λ inside m is. member_below k b.counts.buttons m (rw (sym (runs-length b n)) inside) is,
    λ own. omega (arith, runs-length b n, below-member k b.counts.buttons own),
  );
})

pub add_up : AddUp
unfolding figures_of
add_up b n r told taken = rw (each_figure b n r told taken) (words_add (all_runs b n))

-- ---- the most moves

most-says : (xs : List Run) (d : Run) (k m : ℕ) → 0 < length xs → k < length xs → m ≡ moves_in (get_or xs k d)
    → MostSays (figures_of xs) k m
unfolding figures_of
most-says xs d k m some inside is =
    let most = none_more d xs k inside in
    record {
      none_more = omega (arith, is, most);
      first_so = λ same.
          is ∙ ap (λ (j : ℕ). moves_in (get_or xs j d)) same ∙ first_has d (most_moves xs) xs (first_inside xs some);
      before_fewer = λ before. omega (arith, is, most, before_first d (most_moves xs) xs k before);
    }

pub most_moves_lem : MostMoves
unfolding figures_of
most_moves_lem b n r told taken =
    let one = pow-le-pow_right {n = 2} (omega arith) {i = 0} {j = b.counts.buttons} (omega arith) in
    let some : 0 < length (all_runs b n) = omega (arith, runs-length b n, one) in
    rw (each_figure b n r told taken) (record {
      inside = first_inside (all_runs b n) some;
      each = λ k a l inside x.
          let within : k < settings b = rw (sym (runs-length b n)) inside in
          most-says (all_runs b n) (run_at b n 0) k a.moves some inside
          ((each_run b n k a l taken within x).1 ∙ ap moves_in (sym (runs-place b n k within)));
    })

-- ---- a larger log

pub larger_log : LargerLog
unfolding figures_of all_runs
larger_log b n m r q told also taken accepted room =
    rw (each_figure b n r told taken, each_figure b m q also accepted) (record {
      idle = ends idle tt;
      buzz = ends buzz tt;
      conflict = ends conflict tt;
      spent =
          omega (
            arith,
            ends idle tt,
            ends buzz tt,
            ends conflict tt,
            words_add (all_runs b n),
            words_add (all_runs b m),
            runs-length b n,
            runs-length b m,
          );
      moves = total_grows (run_at b n) (run_at b m) on (settings b) 0;
      most = most_grows (run_at b n) (run_at b m) on (settings b) 0;
    })
  where
    on : (k : ℕ) → GoesOn (run_at b n k) (run_at b m k)
    on k = run-goes_on (step_of b) b.counts.relays [] n m (start_at b k) room

    ends : (e : Ending) → Final e → ended_with e (all_runs b n) ≤ ended_with e (all_runs b m)
    ends e stands = ended_grows (run_at b n) (run_at b m) on e stands (settings b) 0
