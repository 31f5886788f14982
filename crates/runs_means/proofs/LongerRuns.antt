-- The theorem of specs/LongerRuns.antt: the run with more room goes on from the other, and the two answers tell it.
use Prim.Native.Nat.{ℕ}
use mathlib.Core.Path.{◌≡◌, sym, ap, ◌∙◌}
use mathlib.Core.Logic.{inl, inr}
use mathlib.Core.List.{List, []}
use lib.ListN.{length}
use Rattle.refusals.specs.Outcomes.{given}
use Rattle.refusals.proofs.OutcomeLaws.{given_injective}
use Rattle.state.specs.declared.State.{State}
use Rattle.kept.specs.declared.Kept.{Kept}
use Rattle.kept.specs.Kept.{kept_at}
use Rattle.moves.specs.Steps.{step_of}
use Rattle.runs.specs.declared.Ran.{Ran}
use Rattle.runs.specs.Runs.{Run}
use Rattle.runs.specs.Running.{ran, told_ending, told_ran}
use Rattle.runs_means.specs.LongerRuns.{Stands, Extends, LongerRun}
use Rattle.runs_means.proofs.ExtendLaws.{Final, GoesOn, run-goes_on}
use Rattle.runs_means.proofs.AnswerLaws.{accepted_ran, answer_word, answer-bytes, answer_unique}

stands_final : (a : Ran) (x : Run) → told_ending a.word ≡ given x.word → Stands a → Final x.word
stands_final a x told (inl e) = rw (given_injective x.word _ (sym told ∙ ap told_ending e)) tt
stands_final a x told (inr (inl e)) = rw (given_injective x.word _ (sym told ∙ ap told_ending e)) tt
stands_final a x told (inr (inr e)) = rw (given_injective x.word _ (sym told ∙ ap told_ending e)) tt

-- the answers tell what holds of the runs
answer_extends : (keep : State → Kept) (a c : Ran) (l k : List ℕ) (x y : Run) (log long : List ℕ)
    → told_ran a l ≡ ran keep x log → told_ran c k ≡ ran keep y long → GoesOn x y → Extends a l c k
answer_extends keep a c l k x y log long told also on =
    let first = answer-bytes keep a l x log told in
    let second = answer-bytes keep c k y long also in
    record {
      starts = rw (first, second) on.starts;
      stands = λ standing.
          let same = on.stands (stands_final a x (answer_word keep a l x log told) standing) in (
            answer_unique keep c a k l x long log (also ∙ ap (λ (z : Run). ran keep z long) same) told,
            second
                ∙ ap (λ (z : Run). z.bytes) same ∙ sym first,
          );
    }

pub longer_run : LongerRun
longer_run b h log long a c l k told also taken accepted room =
    answer_extends (kept_at b) a c l k _ _ log long
    (accepted_ran b h log a l told taken)
    (accepted_ran b h long c k also accepted)
    (run-goes_on (step_of b) b.counts.relays [] (length log) (length long) h.state room)
