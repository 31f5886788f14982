-- The theorem of specs/Courses.antt: what an accepted run tells is what the run says.
use Prim.Native.Nat.{ℕ, ◌<◌, ◌≤◌}
use native.Mathlib.Omega.{arith}
use mathlib.Core.Path.{◌≡◌, sym, ap, subst, ◌∙◌}
use mathlib.Core.Logic.{◌↔◌}
use mathlib.Core.Bool.{true}
use mathlib.Core.List.{List, []}
use lib.ListN.{length, take, drop}
use lib.Seq.{drop-append_seam, length-take-le}
use Rattle.refusals.specs.Outcomes.{Outcome, given}
use Rattle.refusals.proofs.OutcomeLaws.{given_injective}
use Rattle.bits.proofs.BoolLaws.{by_less}
use Rattle.board.specs.declared.Board.{Board}
use Rattle.board.specs.Rules.{board_fine}
use Rattle.state.specs.declared.State.{State}
use Rattle.kept.specs.declared.Kept.{Kept}
use Rattle.kept.specs.Kept.{kept_at}
use Rattle.kept.proofs.KeptLaws.{kept_sets, usable_given}
use Rattle.moves.specs.Steps.{step_of}
use Rattle.runs.specs.declared.Ran.{Ran}
use Rattle.runs.specs.Runs.{Ending, idle, spent, conflict, buzz, Run}
use Rattle.runs.specs.Running as told
use Rattle.runs.specs.Running.{ran, told_ending, told_ran, run_on}
use Rattle.runs.proofs.RunLaws.{run_goes, goes-room}
use Rattle.runs.proofs.RunningLaws.{runnable_given}
use Rattle.runs_means.proofs.AnswerLaws.{accepted_ran, answer_word, answer-moves, answer-kept, answer_relay}
use Rattle.runs_means.proofs.AnswerLaws.{answer_earlier, answer_between, answer-bytes, answer_log}
use Rattle.runs_means.specs.Following.{Follows, SomeTwice}
use Rattle.runs_means.specs.Courses.{LowestMove, Ended, RunMeans, RunExactly, MeetingUnique, BuzzExactly}
use Rattle.runs_means.specs.Courses.{MeetingFound, NeverSpent}
use Rattle.runs_means.specs.LongerRuns.{moves_of}
use Rattle.runs_means.proofs.RunMeans.{TwiceBy, Says, run-says, ended_exclusive}
use Rattle.runs_means.proofs.FollowLaws.{follows_first, follows-onward}
use Rattle.runs_means.proofs.MeetingLaws.{meeting_twice, twice_longer, twice_first, meeting_unique}
use Rattle.runs_means.proofs.LowestLaws.{lowest_leads, lowest_logs, resting_none_moves, conflict_none_moves}
use Rattle.runs_means.proofs.SpentLaws.{running-unspent}

abbrev OtherThanBuzz : Ending → Type 0
OtherThanBuzz idle = Unit {0}
OtherThanBuzz spent = Unit {0}
OtherThanBuzz conflict = Unit {0}
OtherThanBuzz buzz = ⊥

no_buzz : (w : Ending) → OtherThanBuzz w → ◌≡◌ {A = Outcome Ending} (given w) (given buzz) → ⊥
no_buzz w other is = subst OtherThanBuzz (given_injective w buzz is) other

-- an answer a that tells of the run x means what x says
module _ (b : Board) (s : State) (log : List ℕ) (a : Ran) (l : List ℕ) (x : Run)
    (told : told_ran a l ≡ ran (kept_at b) x log) (says : Says b s (length log) x.bytes x) where
  leaves : a.kept ≡ kept_at b x.state
  leaves = answer-kept (kept_at b) a l x log told

  state-left : a.kept.state ≡ x.state
  state-left = ap (λ (k : Kept). k.state) leaves

  -- what the word e says of the answer
  abbrev EndedSo : Ending → Type 0
  EndedSo e = Ended b s (length log) (moves_of a l) a.kept.state a.relay a.earlier a.between e

  here : EndedSo x.word
  here =
      rw (
        answer-bytes (kept_at b) a l x log told,
        state-left,
        answer_relay (kept_at b) a l x log told,
        answer_earlier (kept_at b) a l x log told,
        answer_between (kept_at b) a l x log told,
      ) says.ended

  -- the word is buzz exactly if some state comes twice
  never_word : (w : Ending) → OtherThanBuzz w → told_ending a.word ≡ given w
      → ¬ (SomeTwice (LowestMove b) s x.bytes)
      → told_ending a.word ≡ given buzz ↔ SomeTwice (LowestMove b) s x.bytes
  never_word w other is never =
      (λ says. absurd (no_buzz w other (sym is ∙ says)), λ again. absurd (never again))

  twice_word : (w : Ending) → told_ending a.word ≡ given w → TwiceBy b w (SomeTwice (LowestMove b) s x.bytes)
      → told_ending a.word ≡ given buzz ↔ SomeTwice (LowestMove b) s x.bytes
  twice_word buzz is twice = (λ says. twice, λ again. is)
  twice_word idle is never = never_word idle tt is never
  twice_word spent is never = never_word spent tt is never
  twice_word conflict is never = never_word conflict tt is never

  told-ended : (e : Ending) → told_ending a.word ≡ given e → EndedSo e
  told-ended e is =
      subst EndedSo (given_injective x.word e (sym (answer_word (kept_at b) a l x log told) ∙ is)) here

  says_means : length x.bytes ≤ length log → RunMeans b s log a l
  says_means room =
      let moves = answer-moves (kept_at b) a l x log told in
      let bytes = answer-bytes (kept_at b) a l x log told in
      record {
        moved = rw (bytes, state-left) says.follows;
        counted = ap length bytes ∙ sym moves;
        room = omega (arith, moves, room);
        beyond = rw moves (ap (drop (length x.bytes)) (answer_log (kept_at b) a l x log told)
            ∙ drop-append_seam x.bytes (drop (length x.bytes) log));
        ended =
            λ e. (
              told-ended e,
              λ end. answer_word (kept_at b) a l x log told ∙ ap given
                  (ended_exclusive b s (length log) (moves_of a l) a.kept.state a.relay a.earlier a.between
                  x.word e here end),
            );
        twice = rw bytes (twice_word x.word (answer_word (kept_at b) a l x log told) says.twice);
        stable = λ is r below. let rest = (told-ended idle is).2 r below in (rest.1, rest.2);
        sets = kept_sets b a.kept (leaves ∙ ap (kept_at b) (sym state-left));
      }

pub run_exactly : RunExactly
run_exactly b h log a l told taken =
    says_means b h.state log a l (run_on b (length log) h.state) (accepted_ran b h log a l told taken)
    (run-says b (usable_given b h (runnable_given b h log taken)).0 h.state (length log))
    (goes-room (run_goes (step_of b) b.counts.relays [] (length log) h.state))

pub meeting_is_unique : MeetingUnique
meeting_is_unique b s cs ds t u i d j e fine x y =
    meeting_unique (LowestMove b) (lowest_leads b fine) (lowest_logs b) s cs ds t u i d j e x y

-- where some state comes twice within the log, the run is buzz: cs are the moves up to where it comes again
module _ (b : Board) (s : State) (log : List ℕ) (a : Ran) (l : List ℕ) (means : RunMeans b s log a l)
    (fine : board_fine b ≡ true) (cs : List ℕ) (t : State) (again : Follows (LowestMove b) s cs t)
    (twice : SomeTwice (LowestMove b) s cs) (fits : length cs ≤ length log) where
  -- a run that made fewer moves could make one more, and had room for it
  onward : (e : Ending) → told_ending a.word ≡ given e → (c : ℕ) × (v : State) × LowestMove b a.kept.state c v
      → length (moves_of a l) < length cs → told_ending a.word ≡ given buzz
  onward idle is (c, v, move) fewer = absurd (resting_none_moves b ((means.ended idle).0 is).2 move)
  onward spent is move fewer = absurd (omega (arith, ((means.ended spent).0 is).1, fewer, fits))
  onward conflict is (c, v, move) fewer = absurd (conflict_none_moves b ((means.ended conflict).0 is).1 move)
  onward buzz is move fewer = is

  fewer-found : (e : Ending) → told_ending a.word ≡ given e → length (moves_of a l) < length cs
      → told_ending a.word ≡ given buzz
  fewer-found e is fewer =
      onward e is
      (follows-onward (LowestMove b) (lowest_leads b fine) (lowest_logs b) s (moves_of a l) cs a.kept.state t
      means.moved again fewer)
      fewer

  -- and one that made as many came to that state twice
  more-found : length cs ≤ length (moves_of a l) → told_ending a.word ≡ given buzz
  more-found least =
      means.twice.1
      (twice_longer (LowestMove b) s cs (moves_of a l)
      (follows_first (LowestMove b) (lowest_leads b fine) (lowest_logs b) s cs (moves_of a l) t a.kept.state
      again means.moved least)
      least twice)

  found : (e : Ending) → told_ending a.word ≡ given e → told_ending a.word ≡ given buzz
  found e is = by_less (length (moves_of a l)) (length cs) (fewer-found e is) more-found

pub buzz_exactly : BuzzExactly
buzz_exactly b h log a l told taken = (
  λ is. (moves_of a l, means.twice.0 is, omega (arith, means.counted, means.room)),
  λ (cs, x, fits).
      found b h.state log a l means (usable_given b h (runnable_given b h log taken)).0 (take x.more cs)
      x.state x.again (twice_first (LowestMove b) h.state cs x)
      (omega (arith, length-take-le x.more cs x.within, x.within, fits)) _
      (answer_word (kept_at b) a l _ log (accepted_ran b h log a l told taken)),
)
  where
    means : RunMeans b h.state log a l
    means = run_exactly b h log a l told taken

pub meeting_found : MeetingFound
meeting_found b h log a l cs t i d told taken first fits =
    let fine = (usable_given b h (runnable_given b h log taken)).0 in
    let is = (buzz_exactly b h log a l told taken).1 (cs, meeting_twice first, fits) in
    let same = meeting_unique (LowestMove b) (lowest_leads b fine) (lowest_logs b) h.state (moves_of a l) cs
    a.kept.state t a.earlier a.between i d (((run_exactly b h log a l told taken).ended buzz).0 is).1 first in
    (is, same.0, same.1, same.2, same.3)

pub never_spent : NeverSpent
never_spent b h log a l tells room says =
    running-unspent b h log room (sym (ap (λ (x : told.Ran). x.word) tells) ∙ says)
