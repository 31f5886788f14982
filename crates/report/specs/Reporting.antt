-- A report, as a call. Request A10: "For boards of up to 12 buttons .. Each figure is that of the definition over all
-- settings. Refusals: 20, more than 12 buttons, after 13; a refused report is all zeros." So it asks 15, 13, 20; it is
-- handed no state and no sets.
--     report_lines b n    the lines of a report on board b with logs of length n: 15, 13, 20
--     reportable b n      what stands against it by these
--     reporting b n       the call: the figures, and what it came to
--     told_reported       the answer's cases in the rule book's numbers
--     Reports b n r       promise: `report` of board b and the length n answers r
use Rattle.std.specs.Prelude.{ℕ, ◌≡◌, [], ◌∷◌, leb}
use Rattle.refusals.specs.Outcomes.{Outcome, given, refused, told}
use Rattle.refusals.specs.Refusals.{broken_board, log_too_long, too_many_buttons}
use Rattle.refusals.specs.Order.{Order, first_no, answering}
use Rattle.board.specs.declared.Board.{Board}
use Rattle.board.specs.Rules.{board_fine}
use Rattle.runs.specs.Running.{longest_log}
use Rattle.report.specs.declared.Figures.{Figures}
use Rattle.report.specs.declared.Reported.{Reported}
use Rattle.report.specs.Settings.{most_reported, all_runs}
use Rattle.report.specs.Figures.{figures_of, no_figures}

abbrev pub report_lines : Board → ℕ → Order
report_lines b n =
    (board_fine b, broken_board)
    ∷ (leb n longest_log, log_too_long)
    ∷ (leb b.counts.buttons most_reported, too_many_buttons)
    ∷ []

unfoldable pub reportable : Board → ℕ → Outcome (Unit {0})
reportable b n = first_no (report_lines b n)

unfoldable pub reporting : Board → ℕ → Figures × Outcome (Unit {0})
reporting b n =
    answering (reportable b n) (λ k p. (no_figures, refused k p)) (λ u. (figures_of (all_runs b n), given tt))

abbrev pub told_reported : Reported → Figures × Outcome (Unit {0})
told_reported r = (r.figures, told r.answer)

abbrev pub Reports : Board → ℕ → Reported → Type 0
Reports b n r = told_reported r ≡ reporting b n
