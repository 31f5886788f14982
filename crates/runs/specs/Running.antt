-- A run, as a call over a lent log. "A refused call returns the number, place 0 and the state it was given, if it takes
-- one; a refused run also 0 moves and relay 255", and the kept sets; "Log and output buffer stay as lent"; "The answer
-- has the word, the moves made, the state, and the relay that stopped it (255 for idle). Log bytes beyond the moves
-- made stay unwritten." Since request A8 it has the moves made up to the earlier state and the moves between too, 0 and
-- 0 unless it is buzz.
--     longest_log            the longest log that a run takes (13)
--     run_lines b h log      the lines of a run of board b from h over the lent log: 15, 14, 18, 13
--     runnable b h log       what stands against it by these
--     Ran                    the answer and the log afterwards
--     ran keep x log         what the run x tells over the lent log: its bytes, then the log's own beyond them; its
--                            state with the sets that `keep` has for it
--     unrun n p h log        what a refused run tells
--     run_on b n s           the run of the board's relays from state s, with room for n moves
--     ran_over b h log       what a run that is not refused tells
--     running b h log        the call
--     told_word              a word that a run ends with, in the rule book's
--     told_ending, told_ran  the answer's cases in the rule book's words and numbers
--     Runs b h log a l       promise: `run` of board b from h over the lent log answers a and leaves the log as l
use Rattle.std.specs.Prelude.{ℕ, ◌≡◌, Result, List, [], ◌∷◌, ◌++◌, leb, length, drop}
use Rattle.refusals.specs.declared.Refusal.{Refusal}
use Rattle.refusals.specs.Outcomes.{Outcome, given, refused, told_as}
use Rattle.refusals.specs.Refusals.{log_too_long}
use Rattle.refusals.specs.Order.{Order, first_no, answering}
use Rattle.board.specs.declared.Board.{Board}
use Rattle.state.specs.declared.State.{State}
use Rattle.kept.specs.declared.Kept.{Kept}
use Rattle.kept.specs.Kept.{kept_at, usable_lines}
use Rattle.moves.specs.Steps.{step_of}
use Rattle.runs.specs.declared.Ending as code-ending
use Rattle.runs.specs.declared.Ending.TheVariants as said
use Rattle.runs.specs.declared.Ran as code-ran
use Rattle.runs.specs.Runs.{Ending, idle, spent, conflict, buzz, Run, no_relay, run_of}

abbrev pub longest_log : ℕ
longest_log = 65536

abbrev pub run_lines : Board → Kept → List ℕ → Order
run_lines b h log = usable_lines b h ++ ((leb (length log) longest_log, log_too_long) ∷ [])

unfoldable pub runnable : Board → Kept → List ℕ → Outcome (Unit {0})
runnable b h log = first_no (run_lines b h log)

pub record Ran : Type 0 where
  pub word : Outcome Ending
  pub moves : ℕ
  pub kept : Kept
  pub relay : ℕ
  pub earlier : ℕ
  pub between : ℕ
  pub log : List ℕ

unfoldable pub ran : (State → Kept) → Run → List ℕ → Ran
ran keep x log =
    record {
      word = given x.word;
      moves = length x.bytes;
      kept = keep x.state;
      relay = x.relay;
      earlier = x.earlier;
      between = x.between;
      log = x.bytes ++ drop (length x.bytes) log;
    }

abbrev pub unrun : ℕ → ℕ → Kept → List ℕ → Ran
unrun n p h log =
    record { word = refused n p; moves = 0; kept = h; relay = no_relay; earlier = 0; between = 0; log = log }

abbrev pub run_on : Board → ℕ → State → Run
run_on b n s = run_of (step_of b) b.counts.relays n s

abbrev pub ran_over : Board → Kept → List ℕ → Ran
ran_over b h log = ran (kept_at b) (run_on b (length log) h.state) log

unfoldable pub running : Board → Kept → List ℕ → Ran
running b h log = answering (runnable b h log) (λ n p. unrun n p h log) (λ u. ran_over b h log)

abbrev pub told_word : code-ending.Ending → Ending
told_word said.Idle = idle
told_word said.Spent = spent
told_word said.Conflict = conflict
told_word said.Buzz = buzz

abbrev pub told_ending : Result code-ending.Ending Refusal → Outcome Ending
told_ending w = told_as told_word w

-- the answer r, with the log l afterwards
abbrev pub told_ran : code-ran.Ran → List ℕ → Ran
told_ran r l =
    record {
      word = told_ending r.word;
      moves = r.moves;
      kept = r.kept;
      relay = r.relay;
      earlier = r.earlier;
      between = r.between;
      log = l;
    }

abbrev pub Runs : Board → Kept → List ℕ → code-ran.Ran → List ℕ → Type 0
Runs b h log a l = told_ran a l ≡ running b h log
