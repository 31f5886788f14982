-- What a run means, over the call `runs::run`, whatever it answers under its promise: its moves, in the words of
-- documents 000 and 002, and what each of its words says exactly.
--     Resting b s k           each relay below k rests in state s: no guard holds of it, and there is not current
--                             through both its windings
--     StoppedBy b s r m       relay r is the first that does not rest in state s, and it comes to m
--     AllowedMove b s c t     one move, from state s to state t, logged as the byte c: a relay of the board comes to
--                             drew or dropped; t is s with that relay drawn, or dropped (`with_drawn`, `with_dropped`),
--                             and "A move changes that relay and nothing else". So the guard for drawing or dropping it
--                             holds in s
--     LowestMove b s c t      an allowed move that is also the lowest: "the first that doesn't rest decides", and each
--                             lower relay rests. So of no lower relay does a guard hold
--     Unmet i d               both are 0
--     Ended b s n cs t r i d e  what the word e says, of a run from state s with room for n moves that made the moves
--                             cs and stopped in state t at relay r, and told i moves up to an earlier state and d
--                             between. Spent: a further move was possible when the log was full, and no state has come
--                             twice; buzz: the first meeting (request A8)
--     RunMeans, RunExactly    of a run that is not refused: the moves it made, as many as it says and as the log has
--                             room for, follow one another from the state given to the state it answers with, and the
--                             log beyond them is as it was; its word is e exactly if `Ended` holds of e; it is buzz
--                             exactly if some state comes twice; and a run that ends idle leaves the board stable, as
--                             document 000 has it; and it hands back the sets of the state that it answers with
--                             (request A5)
--     MeetingUnique           from one state there is one first meeting: the moves to it, the state and both numbers
--                             are no others
--     BuzzExactly             a run that is not refused is buzz exactly if some state comes twice within the log, that
--                             is, within moves that it has room for
--     MeetingFound            where a first meeting lies within the log, the run is buzz, and that meeting is what it
--                             tells
--     NeverSpent              a run whose log has room for 2 to the R moves never ends spent
use Rattle.std.specs.Prelude.{ℕ, ◌+◌, ◌^◌, ◌<◌, ◌≤◌, ◌≡◌, ◌⊎◌, ◌↔◌, true, List, length, drop}
use Rattle.refusals.specs.Outcomes.{given}
use Rattle.board.specs.declared.Board.{Board}
use Rattle.board.specs.Rules.{board_fine}
use Rattle.state.specs.declared.State.{State}
use Rattle.state.specs.States.{with_drawn, with_dropped}
use Rattle.neighbours.specs.Neighbours.{sets_of}
use Rattle.kept.specs.declared.Kept.{Kept}
use Rattle.moves.specs.Steps as step
use Rattle.moves_means.specs.Guards.{CanDraw, CanDrop, Stable}
use Rattle.moves_means.specs.SingleMoves.{Comes}
use Rattle.moves_means.specs.OneRelay.{ElseAsBefore}
use Rattle.runs.specs.declared.Ran.{Ran}
use Rattle.runs.specs.Looks.{draw_mark}
use Rattle.runs.specs.Runs.{Ending, idle, spent, conflict, buzz, no_relay}
use Rattle.runs.specs.Running.{told_ending, Runs}
use Rattle.runs_means.specs.LongerRuns.{AcceptedRun, moves_of}
use Rattle.runs_means.specs.Following.{Follows, SomeTwice, FirstMeeting}

abbrev pub Resting : Board → State → ℕ → Type 0
Resting b s k = (q : ℕ) → q < k → Comes b s q step.rests

abbrev pub StoppedBy : Board → State → ℕ → step.Move → Type 0
StoppedBy b s r m = (r < b.counts.relays) × Resting b s r × Comes b s r m

pub record AllowedMove (b : Board) (s : State) (c : ℕ) (t : State) : Type 0 where
  pub relay : ℕ
  pub on_board : relay < b.counts.relays
  pub made : ((c ≡ relay + draw_mark) × Comes b s relay step.drew × (t ≡ with_drawn s relay))
      ⊎ ((c ≡ relay) × Comes b s relay step.dropped × (t ≡ with_dropped s relay))
  pub else_as_before : ElseAsBefore s relay t
  pub guarded : CanDraw b s relay ⊎ CanDrop b s relay

pub record LowestMove (b : Board) (s : State) (c : ℕ) (t : State) : Type 0 where
  pub move : AllowedMove b s c t
  pub resting : Resting b s move.relay
  pub lowest : (q : ℕ) → q < move.relay → ¬ (CanDraw b s q) × ¬ (CanDrop b s q)

abbrev pub Unmet : ℕ → ℕ → Type 0
Unmet i d = (i ≡ 0) × (d ≡ 0)

abbrev pub Ended : Board → State → ℕ → List ℕ → State → ℕ → ℕ → ℕ → Ending → Type 0
Ended b s n cs t r i d idle = Unmet i d × (r ≡ no_relay) × Resting b t b.counts.relays
Ended b s n cs t r i d spent =
    Unmet i d × (length cs ≡ n) × ¬ (SomeTwice (LowestMove b) s cs)
    × (StoppedBy b t r step.drew ⊎ StoppedBy b t r step.dropped)
Ended b s n cs t r i d conflict = Unmet i d × StoppedBy b t r step.conflict
Ended b s n cs t r i d buzz = (r ≡ no_relay) × FirstMeeting (LowestMove b) s cs t i d

pub record RunMeans (b : Board) (s : State) (log : List ℕ) (a : Ran) (l : List ℕ) : Type 0 where
  pub moved : Follows (LowestMove b) s (moves_of a l) a.kept.state
  pub counted : length (moves_of a l) ≡ a.moves
  pub room : a.moves ≤ length log
  pub beyond : drop a.moves l ≡ drop a.moves log
  pub ended : (e : Ending)
      → told_ending a.word ≡ given e
      ↔ Ended b s (length log) (moves_of a l) a.kept.state a.relay a.earlier a.between e
  pub twice : told_ending a.word ≡ given buzz ↔ SomeTwice (LowestMove b) s (moves_of a l)
  pub stable : told_ending a.word ≡ given idle → Stable b a.kept.state
  pub sets : a.kept.sets ≡ sets_of b a.kept.state

abbrev pub RunExactly : Type 0
RunExactly =
    (b : Board) (h : Kept) (log : List ℕ) (a : Ran) (l : List ℕ)
    → Runs b h log a l
    → AcceptedRun b h log
    → RunMeans b h.state log a l

abbrev pub MeetingUnique : Type 0
MeetingUnique =
    (b : Board) (s : State) (cs ds : List ℕ) (t u : State) (i d j e : ℕ)
    → board_fine b ≡ true
    → FirstMeeting (LowestMove b) s cs t i d
    → FirstMeeting (LowestMove b) s ds u j e
    → (cs ≡ ds) × (t ≡ u) × (i ≡ j) × (d ≡ e)

abbrev pub BuzzExactly : Type 0
BuzzExactly =
    (b : Board) (h : Kept) (log : List ℕ) (a : Ran) (l : List ℕ)
    → Runs b h log a l
    → AcceptedRun b h log
    → told_ending a.word ≡ given buzz
    ↔ ((cs : List ℕ) × SomeTwice (LowestMove b) h.state cs × (length cs ≤ length log))

abbrev pub MeetingFound : Type 0
MeetingFound =
    (b : Board) (h : Kept) (log : List ℕ) (a : Ran) (l cs : List ℕ) (t : State) (i d : ℕ)
    → Runs b h log a l
    → AcceptedRun b h log
    → FirstMeeting (LowestMove b) h.state cs t i d
    → length cs ≤ length log
    → (told_ending a.word ≡ given buzz) × (moves_of a l ≡ cs) × (a.kept.state ≡ t) × (a.earlier ≡ i)
    × (a.between ≡ d)

abbrev pub NeverSpent : Type 0
NeverSpent =
    (b : Board) (h : Kept) (log : List ℕ) (a : Ran) (l : List ℕ)
    → Runs b h log a l
    → 2 ^ b.counts.relays ≤ length log
    → ¬ (told_ending a.word ≡ given spent)
