-- What an accepted run tells, one equation for each place of the answer and of the log afterwards.
use Prim.Native.Nat.{ℕ}
use mathlib.Core.Path.{◌≡◌, sym, ap, ◌∙◌}
use mathlib.Core.List.{List, [], ◌++◌}
use lib.ListN.{length, take, drop}
use lib.Seq.{take-append_seam}
use Rattle.refusals.specs.Outcomes.{given}
use Rattle.board.specs.declared.Board.{Board}
use Rattle.state.specs.declared.State.{State}
use Rattle.kept.specs.declared.Kept.{Kept}
use Rattle.kept.specs.Kept.{kept_at}
use Rattle.runs.specs.declared.Ran.{Ran}
use Rattle.runs.specs.Runs.{Run}
use Rattle.runs.specs.Running.{ran, run_on, told_ending, told_ran, Runs}
use Rattle.refusals.proofs.Tabled.{tells_injective}
use Rattle.runs.proofs.RunningLaws.{running_by, ran-tells}
use Rattle.runs_means.specs.LongerRuns.{AcceptedRun, moves_of}

-- a call that is not refused tells of the run
pub accepted_ran : (b : Board) (h : Kept) (log : List ℕ) (a : Ran) (l : List ℕ) → Runs b h log a l
    → AcceptedRun b h log → told_ran a l ≡ ran (kept_at b) (run_on b (length log) h.state) log
accepted_ran b h log a l told taken = told ∙ sym (running_by b h log (given tt) taken)

module _ (keep : State → Kept) (a : Ran) (l : List ℕ) (x : Run) (log : List ℕ)
    (told : told_ran a l ≡ ran keep x log) where
  pub answer_word : told_ending a.word ≡ given x.word
  unfolding ran
  answer_word = λ i. (told i).word

  pub answer-moves : a.moves ≡ length x.bytes
  unfolding ran
  answer-moves = λ i. (told i).moves

  pub answer-kept : a.kept ≡ keep x.state
  unfolding ran
  answer-kept = λ i. (told i).kept

  pub answer_relay : a.relay ≡ x.relay
  unfolding ran
  answer_relay = λ i. (told i).relay

  pub answer_earlier : a.earlier ≡ x.earlier
  unfolding ran
  answer_earlier = λ i. (told i).earlier

  pub answer_between : a.between ≡ x.between
  unfolding ran
  answer_between = λ i. (told i).between

  pub answer_log : l ≡ x.bytes ++ drop (length x.bytes) log
  unfolding ran
  answer_log = λ i. (told i).log

  -- the log's bytes up to the number of moves are those of the moves made
  pub answer-bytes : moves_of a l ≡ x.bytes
  answer-bytes =
      ap (λ (n : ℕ). take n l) answer-moves ∙ ap (take (length x.bytes)) answer_log
      ∙ take-append_seam x.bytes (drop (length x.bytes) log)

-- two answers that tell of one run are one answer, whatever logs were lent
pub answer_unique : (keep : State → Kept) (a c : Ran) (l k : List ℕ) (x : Run) (log long : List ℕ)
    → told_ran a l ≡ ran keep x log → told_ran c k ≡ ran keep x long → a ≡ c
answer_unique keep a c l k x log long told also =
    ap (λ (p : Ran × List ℕ). p.0)
    (tells_injective (λ (p : Ran × List ℕ). told_ran p.0 p.1) ran-tells (a, []) (c, []) (λ i. record {
      word = (answer_word keep a l x log told ∙ sym (answer_word keep c k x long also)) i;
      moves = (answer-moves keep a l x log told ∙ sym (answer-moves keep c k x long also)) i;
      kept = (answer-kept keep a l x log told ∙ sym (answer-kept keep c k x long also)) i;
      relay = (answer_relay keep a l x log told ∙ sym (answer_relay keep c k x long also)) i;
      earlier = (answer_earlier keep a l x log told ∙ sym (answer_earlier keep c k x long also)) i;
      between = (answer_between keep a l x log told ∙ sym (answer_between keep c k x long also)) i;
      log = [];
    }))
