-- Judging without listing chains. Request A6: "a winding is dead exactly when it is shunted, or there is a terminal x
-- (a pole may be x) such that, with x taken out, no remaining end of the winding reaches a remaining pole over
-- conducting parts (an end that is a pole reaches it). The new judge says shunted first, else live, else dead with the
-- lowest such x. .. Anyone may also hand in a terminal from the workshop's own notes, and a small check accepts it only
-- if it divides, and always then."
--     divides near v x              x divides winding v, by the sets `near`: with x taken out, no remaining pole
--                                   reaches a remaining end
--     lowest_dividing near t v      the lowest of t terminals that divides it; where none does, t
--     Judgement                     what the judge says: live, shunted, or dead with that terminal
--     dead_or_live t x              dead with the terminal x if it is one of t, else live
--     judged_at_once k t v          the judgement of winding v by the sets k of t terminals
--     judging_at_once b h r n       the judge, as a call: of winding n of relay r of board b, by h
--     check_lines b h r n x         the lines of checking terminal x against that winding: 15, 14, 18, 11, 19
--     checking b h r n x            the check, as a call: whether x divides it, shunted or not
--     told_judgement                the answer's cases as judgements
--     JudgesAtOnce b h r n a        promise: `judge` of winding n of relay r of board b, by h, answers a
--     ChecksTerminal b h r n x a    promise: `check` of terminal x against it answers a
-- What the functions of this crate promise each other:
--     DividesLowest near t v a      `lowest_dividing` answers a: that terminal, if one of the t terminals divides
-- `judge_means` shows that these say what the request says, and that the judge agrees with the chains, on every board
-- that breaks no rule and in every state.
use Rattle.std.specs.Prelude.{ℕ, ◌≡◌, Bool, not, cond, ◌&&◌, List, [], ◌∷◌, ◌++◌, ltb, Option, Some, None, Result}
use Rattle.bits.specs.Sets.{member, first_from}
use Rattle.refusals.specs.Outcomes.{Outcome, given, ◌>>◌, ◌>>=◌, told, told_as}
use Rattle.refusals.specs.declared.Refusal.{Refusal}
use Rattle.refusals.specs.Refusals.{terminal_beyond}
use Rattle.refusals.specs.Order.{Order, first_no}
use Rattle.board.specs.declared.Board.{Board}
use Rattle.neighbours.specs.declared.Sets.{Sets}
use Rattle.neighbours.specs.Neighbours.{neighbours, sets_of}
use Rattle.kept.specs.declared.Kept.{Kept}
use Rattle.search.specs.declared.Winding.{Winding}
use Rattle.feed.specs.Feeds.{reached_without}
use Rattle.judge.specs.declared.Which.{Which}
use Rattle.judge.specs.Judging as by-sets
use Rattle.judge.specs.Judging.{judge_lines, winding_for}
use Rattle.divide.specs.declared.Judgement as code-judgement
use Rattle.divide.specs.declared.Judgement.TheVariants as said

unfoldable pub divides : List ℕ → Winding → ℕ → Bool
divides near v x = not (member (reached_without near x) v.a) && not (member (reached_without near x) v.b)

unfoldable pub lowest_dividing : List ℕ → ℕ → Winding → ℕ
lowest_dividing near t v = first_from (divides near v) t 0

pub data Judgement : Type 0 where
  live shunted : Judgement
  dead : ℕ → Judgement

abbrev pub dead_or_live : ℕ → ℕ → Judgement
dead_or_live t x = cond (ltb x t) (dead x) live

unfoldable pub judged_at_once : Sets → ℕ → Winding → Judgement
judged_at_once k t v = cond (by-sets.shunted k v) shunted (dead_or_live t (lowest_dividing k.near t v))

unfoldable pub judging_at_once : Board → Kept → ℕ → Which → Outcome Judgement
judging_at_once b h r n =
    winding_for b h r n >>= λ v. given (judged_at_once (sets_of b h.state) b.counts.terminals v)

abbrev pub check_lines : Board → Kept → ℕ → Which → ℕ → Order
check_lines b h r n x = judge_lines b h r n ++ ((ltb x b.counts.terminals, terminal_beyond) ∷ [])

unfoldable pub checking : Board → Kept → ℕ → Which → ℕ → Outcome Bool
checking b h r n x =
    first_no (check_lines b h r n x) >> winding_for b h r n >>= λ v. given (divides (neighbours b h.state) v x)

abbrev pub told_judgement : code-judgement.Judgement → Judgement
told_judgement said.Live = live
told_judgement said.Shunted = shunted
told_judgement (said.Dead x) = dead x

abbrev pub JudgesAtOnce : Board → Kept → ℕ → Which → Result code-judgement.Judgement Refusal → Type 0
JudgesAtOnce b h r n a = told_as told_judgement a ≡ judging_at_once b h r n

abbrev pub ChecksTerminal : Board → Kept → ℕ → Which → ℕ → Result Bool Refusal → Type 0
ChecksTerminal b h r n x a = told a ≡ checking b h r n x

abbrev pub DividesLowest : List ℕ → ℕ → Winding → Option ℕ → Type 0
DividesLowest near t v a =
    a ≡ cond (ltb (lowest_dividing near t v) t) (Some (lowest_dividing near t v)) None
