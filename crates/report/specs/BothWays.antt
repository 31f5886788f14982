-- How the code goes through all settings. "set both positions of each button in every combination": the report calls
-- itself for button off and button on, and puts the figures of both together, as whoever has figures may.
--     both_ways f k s   what f makes of each state in which the buttons below k are set in some way, and all else is as
--                       in s: first those with button k - 1 as in s, then those with it pushed
--     CanSet b s k n    what it needs for that, of board b and logs of length n: the board breaks no rule, the state
--                       fits it, there are so many buttons and no more than are reported on, and no log is too long
--     came_to e o       1 if a run came to the word e, else 0
--     one_run o m       the figures of one run that came to o after m moves
--     added f g m k     the figures f and g added up, with m for the most moves and k for the first setting that has it
--     followed f g      the figures of some runs with others after them, from those of the ones and of the others
--     Within n f        no figure of f that is added up is above n
--     most_figure       the most that a figure can be
--     capped f          the figures f, where one that is added up counts as most_figure if it is above that
--     OneRun w m r      promise: `one_run` of the word w and m moves answers r
--     Followed f g r    promise: `followed` of the figures f and g answers r
-- `all_runs-both_ways` (proofs/SettingLaws.antt), `one_run-figures` and `figures-followed` (proofs/FigureLaws.antt) say
-- that they come to the same; of figures within 2 to the 32 none is capped (`followed_whole`).
use Rattle.std.specs.Prelude.{ℕ, zero, suc, ◌+◌, ◌-◌, ◌^◌, ◌≤◌, min, max, ◌≡◌, true, cond, List, [], ◌∷◌, ◌++◌, ltb}
use Rattle.std.specs.Prelude.{Result}
use Rattle.refusals.specs.declared.Refusal.{Refusal}
use Rattle.refusals.specs.Outcomes.{Outcome, given, refused}
use Rattle.board.specs.declared.Board.{Board}
use Rattle.board.specs.Rules.{board_fine}
use Rattle.state.specs.declared.State.{State}
use Rattle.state.specs.States.{with_pushed, state_fine}
use Rattle.runs.specs.Runs.{Ending, idle, spent, conflict, buzz}
use Rattle.runs.specs.declared.Ending as code-ending
use Rattle.runs.specs.Running.{longest_log, told_ending}
use Rattle.report.specs.declared.Figures.{Figures}
use Rattle.report.specs.Settings.{most_reported}
use Rattle.report.specs.Figures.{same_word}

unfoldable pub both_ways : {A : Type 0} → (State → A) → ℕ → State → List A
both_ways f zero s = f s ∷ []
both_ways f (suc k) s = both_ways f k s ++ both_ways f k (with_pushed s k)

pub record CanSet (b : Board) (s : State) (k n : ℕ) : Type 0 where
  pub fine : board_fine b ≡ true
  pub fits : state_fine b.counts s ≡ true
  pub own : k ≤ b.counts.buttons
  pub few : k ≤ most_reported
  pub short : n ≤ longest_log

abbrev pub came_to : Ending → Outcome Ending → ℕ
came_to e (given f) = cond (same_word e f) 1 0
came_to e (refused n p) = 0

unfoldable pub one_run : Outcome Ending → ℕ → Figures
one_run o m =
    record {
      settings = 1;
      idle = came_to idle o;
      buzz = came_to buzz o;
      conflict = came_to conflict o;
      spent = came_to spent o;
      moves = m;
      most = m;
      first = 0;
    }

abbrev pub added : Figures → Figures → ℕ → ℕ → Figures
added f g m k =
    record {
      settings = f.settings + g.settings;
      idle = f.idle + g.idle;
      buzz = f.buzz + g.buzz;
      conflict = f.conflict + g.conflict;
      spent = f.spent + g.spent;
      moves = f.moves + g.moves;
      most = m;
      first = k;
    }

unfoldable pub followed : Figures → Figures → Figures
followed f g =
    added f g (max f.most g.most) (cond (ltb f.most g.most) (f.settings + g.first) f.first)

pub record Within (n : ℕ) (f : Figures) : Type 0 where
  pub settings : f.settings ≤ n
  pub idle : f.idle ≤ n
  pub buzz : f.buzz ≤ n
  pub conflict : f.conflict ≤ n
  pub spent : f.spent ≤ n
  pub moves : f.moves ≤ n
  pub first : f.first ≤ n

abbrev pub most_figure : ℕ
most_figure = 2 ^ 64 - 1

abbrev pub capped : Figures → Figures
capped f =
    record {
      settings = min f.settings most_figure;
      idle = min f.idle most_figure;
      buzz = min f.buzz most_figure;
      conflict = min f.conflict most_figure;
      spent = min f.spent most_figure;
      moves = min f.moves most_figure;
      most = f.most;
      first = min f.first most_figure;
    }

abbrev pub OneRun : Result code-ending.Ending Refusal → ℕ → Figures → Type 0
OneRun w m r = r ≡ one_run (told_ending w) m

abbrev pub Followed : Figures → Figures → Figures → Type 0
Followed f g r = r ≡ capped (followed f g)
