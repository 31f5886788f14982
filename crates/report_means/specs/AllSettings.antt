-- Request A10, over the calls `report::report` and `runs::run`, whatever these answer under their promises: "Report
-- exactly: settings, how many ended idle, buzz, conflict and spent, total moves, the most moves, and the first setting
-- that has it (settings counted as the sum of 2 to the button number)."
--     AcceptedReport b n      the report is not refused
--     SettingRun b n k a l    the run from the start state with exactly the buttons of setting k pushed, over a log of
--                             length n, answers a and leaves the log as l
--     EachFigure              each figure of a report that is not refused is that of the runs of all settings
--     EachRun                 and these are what `run` answers of each setting: the word, and so many moves
--     TwentyExactly           a report is refused by 20 exactly if the board breaks no rule, the log is not too long,
--                             and there are more than 12 buttons
--     RefusedZeros            a refused report is all zeros
--     Settings b f            there are 2 to the B, of a board without buttons one; each is the sum of 2 to the numbers
--                             of the buttons that it pushes; and they are "every combination": a number is a setting
--                             exactly if each button that it pushes is the board's
--     SettingsCounted         so it is in each report
--     AddUp                   the four counts add up to the settings
--     MostSays f k m          of a setting k whose run makes m moves: these are no more than the most; they are the
--                             most if it is the first that has it, and fewer if it is before that
--     Most b n f              the first setting that has the most moves is one of them; and `MostSays` of each
--     MostMoves               so it is in each report
--     NoLess f g              idle, buzz and conflict are no fewer in g than in f and spent is no more; nor are the
--                             moves of all fewer, or the most moves
--     LargerLog               so it is of two reports on one board, the second with no shorter a log
use Rattle.std.specs.Prelude.{ℕ, ◌+◌, ◌^◌, ◌<◌, ◌≤◌, ◌≡◌, ◌↔◌, true, List, length}
use Rattle.bits.specs.Sets.{sum_below}
use Rattle.refusals.specs.Outcomes.{given, refused, told}
use Rattle.refusals.specs.Refusals.{too_many_buttons}
use Rattle.board.specs.declared.Board.{Board}
use Rattle.board.specs.Rules.{board_fine}
use Rattle.state.specs.States.{is_pushed}
use Rattle.kept.specs.Kept.{kept_at}
use Rattle.runs.specs.declared.Ran.{Ran}
use Rattle.runs.specs.Running.{longest_log, told_ending, Runs}
use Rattle.report.specs.declared.Figures.{Figures}
use Rattle.report.specs.declared.Reported.{Reported}
use Rattle.report.specs.Settings.{most_reported, settings, start_at, run_at, all_runs}
use Rattle.report.specs.Figures.{moves_in, figures_of, no_figures}
use Rattle.report.specs.Reporting.{reportable, Reports}

abbrev pub AcceptedReport : Board → ℕ → Type 0
AcceptedReport b n = reportable b n ≡ given tt

pub record SettingRun (b : Board) (n k : ℕ) (a : Ran) (l : List ℕ) : Type 0 where
  pub log : List ℕ
  pub long : length log ≡ n
  pub runs : Runs b (kept_at b (start_at b k)) log a l

abbrev pub EachFigure : Type 0
EachFigure =
    (b : Board) (n : ℕ) (r : Reported) → Reports b n r → AcceptedReport b n → r.figures ≡ figures_of (all_runs b n)

abbrev pub EachRun : Type 0
EachRun =
    (b : Board) (n k : ℕ) (a : Ran) (l : List ℕ)
    → AcceptedReport b n
    → k < settings b
    → SettingRun b n k a l
    → (told_ending a.word ≡ given (run_at b n k).word) × (a.moves ≡ moves_in (run_at b n k))

abbrev pub TwentyExactly : Type 0
TwentyExactly =
    (b : Board) (n : ℕ) (r : Reported)
    → Reports b n r
    → told r.answer ≡ refused too_many_buttons 0
    ↔ (board_fine b ≡ true) × (n ≤ longest_log) × (most_reported < b.counts.buttons)

abbrev pub RefusedZeros : Type 0
RefusedZeros =
    (b : Board) (n : ℕ) (r : Reported) (k p : ℕ)
    → Reports b n r
    → told r.answer ≡ refused k p
    → r.figures ≡ no_figures

pub record Settings (b : Board) (f : Figures) : Type 0 where
  pub many : f.settings ≡ 2 ^ b.counts.buttons
  pub alone : b.counts.buttons ≡ 0 → f.settings ≡ 1
  pub sum : (k : ℕ) → k < f.settings → k ≡ sum_below b.counts.buttons (start_at b k).pushed
  pub every : (k : ℕ) → k < f.settings ↔ ((m : ℕ) → is_pushed (start_at b k) m ≡ true → m < b.counts.buttons)

abbrev pub SettingsCounted : Type 0
SettingsCounted = (b : Board) (n : ℕ) (r : Reported) → Reports b n r → AcceptedReport b n → Settings b r.figures

abbrev pub AddUp : Type 0
AddUp =
    (b : Board) (n : ℕ) (r : Reported)
    → Reports b n r
    → AcceptedReport b n
    → r.figures.idle + r.figures.buzz + r.figures.conflict + r.figures.spent ≡ r.figures.settings

pub record MostSays (f : Figures) (k m : ℕ) : Type 0 where
  pub none_more : m ≤ f.most
  pub first_so : k ≡ f.first → m ≡ f.most
  pub before_fewer : k < f.first → m < f.most

pub record Most (b : Board) (n : ℕ) (f : Figures) : Type 0 where
  pub inside : f.first < f.settings
  pub each : (k : ℕ) (a : Ran) (l : List ℕ) → k < f.settings → SettingRun b n k a l → MostSays f k a.moves

abbrev pub MostMoves : Type 0
MostMoves = (b : Board) (n : ℕ) (r : Reported) → Reports b n r → AcceptedReport b n → Most b n r.figures

pub record NoLess (f g : Figures) : Type 0 where
  pub idle : f.idle ≤ g.idle
  pub buzz : f.buzz ≤ g.buzz
  pub conflict : f.conflict ≤ g.conflict
  pub spent : g.spent ≤ f.spent
  pub moves : f.moves ≤ g.moves
  pub most : f.most ≤ g.most

abbrev pub LargerLog : Type 0
LargerLog =
    (b : Board) (n m : ℕ) (r q : Reported)
    → Reports b n r
    → Reports b m q
    → AcceptedReport b n
    → AcceptedReport b m
    → n ≤ m
    → NoLess r.figures q.figures
