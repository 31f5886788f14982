-- Request A10: "set both positions of each button in every combination, from the start state, and run each with a log
-- length given as a number"; "settings counted as the sum of 2 to the button number". So a setting is the set of the
-- buttons that are pushed in it, as a number.
--     settings b          how many settings the buttons of board b have: they are the numbers below 2 to the B
--     start_at b k        the start state of board b with exactly the buttons of setting k pushed
--     run_at b n k        the run of the board from there, with a log of length n
--     all_runs b n        the runs of all settings, in order: that of setting 0, of setting 1, and so on
--     most_reported       "boards of up to 12 buttons"
use Rattle.std.specs.Prelude.{ℕ, ◌^◌, List}
use Rattle.lists.specs.Tables.{table_from}
use Rattle.board.specs.declared.Board.{Board}
use Rattle.state.specs.declared.State.{State}
use Rattle.state.specs.States.{fresh_state}
use Rattle.runs.specs.Runs.{Run}
use Rattle.runs.specs.Running.{run_on}

abbrev pub settings : Board → ℕ
settings b = 2 ^ b.counts.buttons

abbrev pub start_at : Board → ℕ → State
start_at b k = record { drawn = (fresh_state b).drawn; pushed = k }

abbrev pub run_at : Board → ℕ → ℕ → Run
run_at b n k = run_on b n (start_at b k)

unfoldable pub all_runs : Board → ℕ → List Run
all_runs b n = table_from (run_at b n) (settings b) 0

abbrev pub most_reported : ℕ
most_reported = 12
