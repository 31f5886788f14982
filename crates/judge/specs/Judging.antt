-- Judging: "a refused judgement no verdict, effort 0 and length 0". Request A4: "a winding is shunted if its two ends
-- are linked through conducting parts none of which is a winding, over any terminals. A shunted winding is dead with
-- effort 0, so any allowance settles it".
--     shunted k v           by the sets k, one end of winding v reaches the other over parts that are no winding
--     judged_by k t v w     the verdict on winding v within the allowance w, by the sets k: dead with effort 0 if it is
--                           shunted, else by the chains of t terminals
--     judge_lines b h r n   the lines of judging winding n of relay r of board b in the state and by the sets of h: 15,
--                           14, 18, 11
--     winding_for b h r n   the winding that is judged, after these
--     verdict_on b s o w    the verdict on it in state s within the allowance w, or the refusal: the kept sets do not
--                           bear on it
--     judging b h r n w     the call
--     AsksFor b h r n a     promise: `winding_for` winding n of relay r of board b, by h, answers a
--     FindsShunt k v r      promise: `is_shunted` of winding v by the sets k answers r
--     Judges b h r n w v    promise: `judge` of winding n of relay r of board b, by h and within the allowance w,
--                           answers v
-- What the functions of this crate promise each other:
--     JudgesBy k t v w r    `judge_by` of winding v by the sets k of t terminals, within the allowance w, answers r;
--                           `AsAfresh` of `judge_means` cites it
--     at_once f             the finding f without effort, and no chain shown
-- `judge_means` shows that `shunted` says what the request says, of a board whose counts and parts fit.
use Rattle.std.specs.Prelude.{ℕ, ◌≡◌, Bool, Result, cond, [], ◌∷◌, ◌++◌}
use Rattle.std.proofs.Math.Option.{none}
use Rattle.bits.specs.Sets.{member, including}
use Rattle.refusals.specs.Outcomes.{Outcome, given, refused, ◌>>◌, told}
use Rattle.refusals.specs.Refusals.{no_such_winding}
use Rattle.refusals.specs.declared.Refusal.{Refusal}
use Rattle.refusals.specs.Order.{Order, first_no}
use Rattle.board.specs.declared.Board.{Board}
use Rattle.board.specs.Parts.{parts_of}
use Rattle.state.specs.declared.State.{State}
use Rattle.neighbours.specs.declared.Sets.{Sets}
use Rattle.neighbours.specs.Neighbours.{sets_of}
use Rattle.kept.specs.declared.Kept.{Kept}
use Rattle.kept.specs.Kept.{usable_lines}
use Rattle.reach.specs.Floods.{flooded}
use Rattle.search.specs.declared.Winding.{Winding}
use Rattle.search.specs.declared.Verdict as code-verdict
use Rattle.search.specs.Verdicts.{Finding, Verdict, settled, verdict_by, places, in_sets, unanswered, told_verdict}
use Rattle.judge.specs.declared.Which.{Which}
use Rattle.judge.specs.RelayWindings.{winding_of, is_there, or_no_such_winding}

unfoldable pub shunted : Sets → Winding → Bool
shunted k v = member (flooded k.bare (including 0 v.a) 0) v.b

unfoldable pub judged_by : Sets → ℕ → Winding → ℕ → Verdict
judged_by k t v w = cond (shunted k v) (settled 0 none) (verdict_by k.near (in_sets t) v w)

abbrev pub judge_lines : Board → Kept → ℕ → Which → Order
judge_lines b h r n = usable_lines b h ++ ((is_there (winding_of n r (parts_of b)), no_such_winding) ∷ [])

unfoldable pub winding_for : Board → Kept → ℕ → Which → Outcome Winding
winding_for b h r n = first_no (judge_lines b h r n) >> or_no_such_winding (winding_of n r (parts_of b))

abbrev pub verdict_on : Board → State → Outcome Winding → ℕ → Verdict
verdict_on b s (given v) w = judged_by (sets_of b s) b.counts.terminals v w
verdict_on b s (refused n p) w = unanswered n p

unfoldable pub judging : Board → Kept → ℕ → Which → ℕ → Verdict
judging b h r n w = verdict_on b h.state (winding_for b h r n) w

abbrev pub AsksFor : Board → Kept → ℕ → Which → Result Winding Refusal → Type 0
AsksFor b h r n a = told a ≡ winding_for b h r n

abbrev pub FindsShunt : Sets → Winding → Bool → Type 0
FindsShunt k v r = r ≡ shunted k v

abbrev pub JudgesBy : Sets → ℕ → Winding → ℕ → code-verdict.Verdict → Type 0
JudgesBy k t v w r = told_verdict r ≡ judged_by k t v w

abbrev pub Judges : Board → Kept → ℕ → Which → ℕ → code-verdict.Verdict → Type 0
Judges b h r n w v = told_verdict v ≡ judging b h r n w

abbrev pub at_once : Outcome Finding → Verdict
at_once f = record { finding = f; effort = 0; length = 0; places = places [] }
