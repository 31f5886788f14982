-- Terminals that divide a winding, and that the judge that goes by them agrees with the chains. Request A6: "a winding
-- is dead exactly when it is shunted, or there is a terminal x (a pole may be x) such that, with x taken out, no
-- remaining end of the winding reaches a remaining pole over conducting parts (an end that is a pole reaches it). The
-- new judge says shunted first, else live, else dead with the lowest such x. Prove that it agrees with the chain
-- definition on every board. Anyone may also hand in a terminal from the workshop's own notes, and a small check
-- accepts it only if it divides, and always then."
--     DividesOn b s e x      terminal x divides winding e of board b in state s, in these words
--     LowestOn b s e x       x is the lowest terminal of the board that does
--     UndividedOn b s e      no terminal of the board does
--     DividedOn b s e        some terminal of the board does
--     ServedOn b s u         whichever other terminal of the board is taken out, some remaining pole reaches terminal u
--     ShownUndivided         on every board that breaks no rule, in every state: a chain shows a relay's winding
--                            exactly if no terminal divides it, and none does exactly if some terminal divides it;
--                            shunted or not
--     ServedExactly          what a look works out: a terminal of such a board is among the served ones exactly if it
--                            is served
--     LinkedExactly          and by the linked ones a winding on it is shunted exactly if it is
--     LiveServed             on such a board: a winding that is not shunted is live exactly if both its ends are
--                            served. A look at the relays goes by this
--     ToldExactly            over the call `divide::judge`: live exactly if a chain shows the winding and it is not
--                            shunted, shunted exactly if it is, dead with x exactly if neither and x is the lowest
--                            terminal that divides it
--     SaysDead o             a judgement o is shunted or dead with some terminal
--     AgreeWhereSettled      wherever the chain judge settles a winding, at whatever allowance, the two say the same:
--                            live and live, dead and shunted or dead (shunted is with effort 0: `ShuntedDead`)
--     CheckedExactly         over the call `divide::check`: a terminal of the board is accepted exactly if it divides
--                            the winding, shunted or not
--     NineteenExactly        it refuses by 19 exactly if none of 15, 14, 18 and 11 holds and the terminal is not below
--                            T
use Rattle.std.specs.Prelude.{ℕ, ◌<◌, ◌≤◌, ◌≡◌, ◌↔◌, Bool, true, false, Result, Ok}
use Rattle.bits.specs.Sets.{member}
use Rattle.refusals.specs.Outcomes.{Outcome, given, refused, told, told_as}
use Rattle.refusals.specs.declared.Refusal.{Refusal}
use Rattle.refusals.specs.Refusals.{terminal_beyond}
use Rattle.board.specs.declared.Board.{Board}
use Rattle.board.specs.Rules.{board_fine}
use Rattle.state.specs.declared.State.{State}
use Rattle.neighbours.specs.Neighbours.{Joined, neighbours, bare_neighbours}
use Rattle.kept.specs.declared.Kept.{Kept}
use Rattle.kept.specs.Kept.{CanUse}
use Rattle.dividing.specs.Dividing.{Divides, Divided, Served}
use Rattle.search.specs.declared.Winding.{Winding}
use Rattle.search.specs.declared.Verdict.{Verdict}
use Rattle.search.specs.declared.Finding.TheVariants as said
use Rattle.feed.specs.Feeds.{served, linked, shunted_by}
use Rattle.judge.specs.declared.Which.{Which}
use Rattle.judge.specs.Judging.{Judges}
use Rattle.divide.specs.declared.Judgement as code-judgement
use Rattle.divide.specs.AtOnce.{Judgement, live, shunted, dead, told_judgement, JudgesAtOnce}
use Rattle.divide.specs.AtOnce.{ChecksTerminal}
use Rattle.judge_means.specs.Shunts.{Shunted, OnBoard}
use Rattle.judge_means.specs.Exactness.{AcceptedWinding, IsShown, IsLive}
use Rattle.judge_means.specs.Eleven.{LineEleven, ItsWinding}

abbrev pub DividesOn : Board → State → Winding → ℕ → Type 0
DividesOn b s e x = Divides (Joined b s) b.counts.terminals e.a e.b x

pub record LowestOn (b : Board) (s : State) (e : Winding) (x : ℕ) : Type 0 where
  pub inside : x < b.counts.terminals
  pub divides : DividesOn b s e x
  pub lowest : (y : ℕ) → y < x → ¬ (DividesOn b s e y)

abbrev pub UndividedOn : Board → State → Winding → Type 0
UndividedOn b s e = (x : ℕ) → x < b.counts.terminals → ¬ (DividesOn b s e x)

abbrev pub DividedOn : Board → State → Winding → Type 0
DividedOn b s e = Divided (Joined b s) b.counts.terminals e.a e.b

abbrev pub ServedOn : Board → State → ℕ → Type 0
ServedOn b s u = Served (Joined b s) b.counts.terminals u

abbrev pub ShownUndivided : Type 0
ShownUndivided =
    (b : Board) (s : State) (r : ℕ) (n : Which) (e : Winding)
    → board_fine b ≡ true
    → ItsWinding b r n e
    → (IsShown b s e ↔ UndividedOn b s e)
    × (¬ (IsShown b s e) ↔ DividedOn b s e)

abbrev pub ServedExactly : Type 0
ServedExactly =
    (b : Board) (s : State) (u : ℕ)
    → board_fine b ≡ true
    → u < b.counts.terminals
    → member (served (neighbours b s) b.counts.terminals) u ≡ true ↔ ServedOn b s u

abbrev pub LinkedExactly : Type 0
LinkedExactly =
    (b : Board) (s : State) (e : Winding)
    → board_fine b ≡ true
    → OnBoard b e
    → shunted_by (linked (bare_neighbours b s) b.counts.terminals) e ≡ true ↔ Shunted b s e

abbrev pub LiveServed : Type 0
LiveServed =
    (b : Board) (s : State) (r : ℕ) (n : Which) (e : Winding)
    → board_fine b ≡ true
    → ItsWinding b r n e
    → ¬ (Shunted b s e)
    → IsLive b s e ↔ ServedOn b s e.a × ServedOn b s e.b

abbrev pub ToldExactly : Type 0
ToldExactly =
    (b : Board) (h : Kept) (r : ℕ) (n : Which) (e : Winding) (a : Result code-judgement.Judgement Refusal)
    → JudgesAtOnce b h r n a
    → AcceptedWinding b h r n e
    → (told_as told_judgement a ≡ given live ↔ IsLive b h.state e)
    × (told_as told_judgement a ≡ given shunted ↔ Shunted b h.state e)
    × ((x : ℕ) → told_as told_judgement a ≡ given (dead x)
    ↔ ¬ (Shunted b h.state e) × ¬ (IsShown b h.state e) × LowestOn b h.state e x)

abbrev pub SaysDead : Outcome Judgement → Type 0
SaysDead (given live) = ⊥
SaysDead (given shunted) = Unit {0}
SaysDead (given (dead x)) = Unit {0}
SaysDead (refused n p) = ⊥

abbrev pub AgreeWhereSettled : Type 0
AgreeWhereSettled =
    (b : Board) (h : Kept) (r : ℕ) (n : Which) (w : ℕ) (e : Winding) (v : Verdict)
    (a : Result code-judgement.Judgement Refusal)
    → Judges b h r n w v
    → JudgesAtOnce b h r n a
    → AcceptedWinding b h r n e
    → (v.finding ≡ Ok said.Live → told_as told_judgement a ≡ given live)
    × (v.finding ≡ Ok said.Dead → SaysDead (told_as told_judgement a))

abbrev pub CheckedExactly : Type 0
CheckedExactly =
    (b : Board) (h : Kept) (r : ℕ) (n : Which) (e : Winding) (x : ℕ) (a : Result Bool Refusal)
    → ChecksTerminal b h r n x a
    → AcceptedWinding b h r n e
    → x < b.counts.terminals
    → (told a ≡ given true ↔ DividesOn b h.state e x)
    × (told a ≡ given false ↔ ¬ (DividesOn b h.state e x))

abbrev pub NineteenExactly : Type 0
NineteenExactly =
    (b : Board) (h : Kept) (r : ℕ) (n : Which) (x : ℕ) (a : Result Bool Refusal)
    → ChecksTerminal b h r n x a
    → told a ≡ refused terminal_beyond 0
    ↔ CanUse b h × ¬ (LineEleven b r n) × (b.counts.terminals ≤ x)
