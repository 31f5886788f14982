-- Request A10: "Report exactly: settings, how many ended idle, buzz, conflict and spent, total moves, the most moves,
-- and the first setting that has it".
--     moves_in x           the moves of the run x
--     word_place e         which of the four words e is
--     same_word e f        e and f are the same word
--     ended_with e xs      how many of the runs xs ended with the word e
--     total_moves xs       the moves of all the runs xs
--     most_moves xs        the most moves of any of the runs xs; 0 of none
--     first_with m xs      the place of the first of the runs xs that has m moves, counted from 0; how many runs there
--                          are, if none has. Where these are the runs of all settings, in order, it is the setting
--     figures_of xs        the figures of the runs xs
--     no_figures           all zeros
use Rattle.std.specs.Prelude.{ℕ, suc, ◌+◌, max, Bool, cond, List, [], ◌∷◌, eqb, length}
use Rattle.runs.specs.Runs.{Ending, idle, spent, conflict, buzz, Run}
use Rattle.report.specs.declared.Figures.{Figures}

abbrev pub moves_in : Run → ℕ
moves_in x = length x.bytes

abbrev pub word_place : Ending → ℕ
word_place idle = 0
word_place buzz = 1
word_place conflict = 2
word_place spent = 3

abbrev pub same_word : Ending → Ending → Bool
same_word e f = eqb (word_place e) (word_place f)

unfoldable pub ended_with : Ending → List Run → ℕ
ended_with e [] = 0
ended_with e (x ∷ xs) = cond (same_word e x.word) 1 0 + ended_with e xs

unfoldable pub total_moves : List Run → ℕ
total_moves [] = 0
total_moves (x ∷ xs) = moves_in x + total_moves xs

unfoldable pub most_moves : List Run → ℕ
most_moves [] = 0
most_moves (x ∷ xs) = max (moves_in x) (most_moves xs)

unfoldable pub first_with : ℕ → List Run → ℕ
first_with m [] = 0
first_with m (x ∷ xs) = cond (eqb (moves_in x) m) 0 (suc (first_with m xs))

unfoldable pub figures_of : List Run → Figures
figures_of xs =
    record {
      settings = length xs;
      idle = ended_with idle xs;
      buzz = ended_with buzz xs;
      conflict = ended_with conflict xs;
      spent = ended_with spent xs;
      moves = total_moves xs;
      most = most_moves xs;
      first = first_with (most_moves xs) xs;
    }

abbrev pub no_figures : Figures
no_figures =
    record { settings = 0; idle = 0; buzz = 0; conflict = 0; spent = 0; moves = 0; most = 0; first = 0 }
