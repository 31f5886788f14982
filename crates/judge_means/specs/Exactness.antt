-- What live, dead and undecided mean, stated of any judge, and proved of each that keeps the promise of the call
-- `judge::judge`. Demand 3: "Number the chains from plus in the order of our rule book. A winding is called live
-- exactly when the first chain that shows it lies within the allowance, dead exactly when there is none and all chains
-- lie within it, otherwise undecided." Request A4: "In demands 2 and 3 "live" means live and not shunted, effort may be
-- 0, and a shunted winding is called dead at every allowance, however many chains there are." Rule book: "Live, with
-- the first such chain shown, exactly if the winding is live and its effort is at most W. Dead exactly if it is dead
-- and its effort is at most W. Undecided otherwise."
--     Judge                        which verdicts a judge can answer on a board, a state with its kept sets, a winding
--                                  of a relay and an allowance
--     Keeps J                      the judge J answers nothing that the promise of `judge` does not allow
--     AcceptedWinding b h r n e    the call is not refused, and e is the winding judged
--     chains_of b s                the list of all chains of board b in state s
--     ChainOf b s c                c is a chain of board b in state s
--     AllChains b s                that list holds exactly the rule book's chains, in dictionary order, each once
--     TheChains                    so it is of every board whose counts and parts fit
--     IsShown b s e                "some chain ends at 1 and has a and b side by side, in either order": a chain shows
--                                  winding e
--     IsLive b s e                 a chain shows winding e, and it is not shunted
--     effort_of b s e              its effort: 0 of a shunted one
--     FirstShowing b s e k         number k, counted from 1, is that of the first chain that shows winding e
--     EffortNumbers                the effort in the demand's words, of a winding on the board: of a shunted one 0, of
--                                  a live one the number of the first chain that shows it, of any other the number of
--                                  all chains
--     OfEveryVerdict J P           P holds of every verdict v of J, within the allowance w, on a winding e that is
--                                  judged
--     AsAfresh J                   a verdict is the one by the sets worked out from board and state, effort and chain
--                                  included. Request A5: "judgements from them are the old ones, efforts included"
--     LiveExactly J                live exactly if it is so and its effort is at most W
--     DeadExactly J                dead exactly if it is shunted, or no chain shows it and all chains lie within W
--     UndecidedExactly J           undecided exactly if its effort is larger than W
--     FirstChain b s e v           v shows the first chain that shows winding e, before every other one in the rule
--                                  book's order, and its effort is that chain's number
--     LiveShows J                  so it is of a live verdict
--     ShowsNone v                  v shows no chain
--     ShuntedDead J                a shunted winding is called dead with effort 0, whatever the allowance, the chains
--                                  and document 000 say
--     DeadCounts J                 of any other, dead reports the number of all chains, and no chain
--     UndecidedReports J           undecided reports W, and no chain
--     AsPublished J                of a winding that is not shunted, live is exactly what document 000 calls current
--                                  carrying, dead exactly that it is not, where the effort is within the allowance
use Rattle.std.specs.Prelude.{ℕ, ◌+◌, ◌<◌, ◌≤◌, ◌≡◌, ◌⊎◌, ◌↔◌, cond, List, [], ◌∷◌, ◌++◌, length, Ok}
use Rattle.lists.specs.Members.{◌∈◌, All, Once}
use Rattle.refusals.specs.Outcomes.{given}
use Rattle.board.specs.declared.Board.{Board}
use Rattle.board.specs.BreaksNoRule.{BoardFits}
use Rattle.state.specs.declared.State.{State}
use Rattle.neighbours.specs.Neighbours.{Joined, joined, neighbours, sets_of}
use Rattle.kept.specs.declared.Kept.{Kept}
use Rattle.chains.specs.Chains.{IsChain, Before, Sorted, Shows, Live}
use Rattle.chains.specs.ChainList.{chains, shows}
use Rattle.search.specs.declared.Winding.{Winding}
use Rattle.search.specs.declared.Verdict.{Verdict}
use Rattle.search.specs.declared.Finding.TheVariants as said
use Rattle.search.specs.Verdicts.{effort, places}
use Rattle.judge.specs.declared.Which.{Which}
use Rattle.judge.specs.Judging.{shunted, winding_for, JudgesBy, Judges}
use Rattle.judge_means.specs.Circuits.{WindingCarries}
use Rattle.judge_means.specs.Shunts.{Shunted, OnBoard}

abbrev pub Judge : Type 1
Judge = Board → Kept → ℕ → Which → ℕ → Verdict → Type 0

abbrev pub Keeps : Judge → Type 0
Keeps J = (b : Board) (h : Kept) (r : ℕ) (n : Which) (w : ℕ) (v : Verdict) → J b h r n w v → Judges b h r n w v

abbrev pub AcceptedWinding : Board → Kept → ℕ → Which → Winding → Type 0
AcceptedWinding b h r n e = winding_for b h r n ≡ given e

abbrev pub chains_of : Board → State → List (List ℕ)
chains_of b s = chains (joined (neighbours b s)) b.counts.terminals

abbrev pub ChainOf : Board → State → List ℕ → Type 0
ChainOf b s c = IsChain (Joined b s) b.counts.terminals c

abbrev pub IsShown : Board → State → Winding → Type 0
IsShown b s e = Live (Joined b s) b.counts.terminals e.a e.b

abbrev pub IsLive : Board → State → Winding → Type 0
IsLive b s e = IsShown b s e × ¬ (Shunted b s e)

unfoldable pub effort_of : Board → State → Winding → ℕ
effort_of b s e = cond (shunted (sets_of b s) e) 0 (effort (shows e.a e.b) (chains_of b s))

pub record AllChains (b : Board) (s : State) : Type 0 where
  pub exactly : (c : List ℕ) → c ∈ chains_of b s ↔ ChainOf b s c
  pub ordered : Sorted (chains_of b s)
  pub once : Once (chains_of b s)

abbrev pub TheChains : Type 0
TheChains = (b : Board) (s : State) → BoardFits b → AllChains b s

pub record FirstShowing (b : Board) (s : State) (e : Winding) (k : ℕ) : Type 0 where
  pub early : List (List ℕ)
  pub chain : List ℕ
  pub late : List (List ℕ)
  pub all : chains_of b s ≡ early ++ (chain ∷ late)
  pub showing : Shows e.a e.b chain
  pub none_before : All (λ (c : List ℕ). ¬ (Shows e.a e.b c)) early
  pub number : k ≡ length early + 1

abbrev pub EffortNumbers : Type 0
EffortNumbers =
    (b : Board) (s : State) (e : Winding)
    → BoardFits b
    → OnBoard b e
    → (Shunted b s e → effort_of b s e ≡ 0)
    × (IsLive b s e → FirstShowing b s e (effort_of b s e))
    × (¬ (Shunted b s e) → ¬ (IsShown b s e) → effort_of b s e ≡ length (chains_of b s))

abbrev pub OfEveryVerdict : Judge → (Board → State → ℕ → Winding → Verdict → Type 0) → Type 0
OfEveryVerdict J P =
    (b : Board) (h : Kept) (r : ℕ) (n : Which) (w : ℕ) (e : Winding) (v : Verdict)
    → J b h r n w v
    → AcceptedWinding b h r n e
    → P b h.state w e v

abbrev pub AsAfresh : Judge → Type 0
AsAfresh J = OfEveryVerdict J λ b s w e v. JudgesBy (sets_of b s) b.counts.terminals e w v

abbrev pub LiveExactly : Judge → Type 0
LiveExactly J = OfEveryVerdict J λ b s w e v. v.finding ≡ Ok said.Live ↔ IsLive b s e × (effort_of b s e ≤ w)

abbrev pub DeadExactly : Judge → Type 0
DeadExactly J =
    OfEveryVerdict J λ b s w e v.
    v.finding ≡ Ok said.Dead ↔ Shunted b s e ⊎ (¬ (IsShown b s e) × (length (chains_of b s) ≤ w))

abbrev pub UndecidedExactly : Judge → Type 0
UndecidedExactly J = OfEveryVerdict J λ b s w e v. v.finding ≡ Ok said.Undecided ↔ w < effort_of b s e

pub record FirstChain (b : Board) (s : State) (e : Winding) (v : Verdict) : Type 0 where
  pub numbered : FirstShowing b s e v.effort
  pub its_length : v.length ≡ length numbered.chain
  pub its_places : v.terminals ≡ places numbered.chain
  pub is_chain : ChainOf b s numbered.chain
  pub first : (d : List ℕ) → ChainOf b s d → Shows e.a e.b d → (d ≡ numbered.chain) ⊎ Before numbered.chain d

abbrev pub LiveShows : Judge → Type 0
LiveShows J = OfEveryVerdict J λ b s w e v. v.finding ≡ Ok said.Live → FirstChain b s e v

abbrev pub ShowsNone : Verdict → Type 0
ShowsNone v = (v.length ≡ 0) × (v.terminals ≡ places [])

abbrev pub ShuntedDead : Judge → Type 0
ShuntedDead J =
    OfEveryVerdict J λ b s w e v.
    Shunted b s e → (v.finding ≡ Ok said.Dead) × (v.effort ≡ 0) × ShowsNone v

abbrev pub DeadCounts : Judge → Type 0
DeadCounts J =
    OfEveryVerdict J λ b s w e v.
    v.finding ≡ Ok said.Dead → ¬ (Shunted b s e) → (v.effort ≡ length (chains_of b s)) × ShowsNone v

abbrev pub UndecidedReports : Judge → Type 0
UndecidedReports J = OfEveryVerdict J λ b s w e v. v.finding ≡ Ok said.Undecided → (v.effort ≡ w) × ShowsNone v

abbrev pub AsPublished : Judge → Type 0
AsPublished J =
    OfEveryVerdict J λ b s w e v.
    ¬ (Shunted b s e)
    → (v.finding ≡ Ok said.Live ↔ WindingCarries b s e.a e.b × (effort_of b s e ≤ w))
    × (v.finding ≡ Ok said.Dead ↔ ¬ (WindingCarries b s e.a e.b) × (effort_of b s e ≤ w))
