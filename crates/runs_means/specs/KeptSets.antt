-- The kept sets, over the calls, whatever these answer under their promises. Request A5: "A move or a button changes
-- only the sets at the ends of that relay's contacts or that button's parts. After any calls the kept sets equal those
-- worked out from board and state".
--     OnlyAtEnds          what a push, a release and a single move leave, refused or not, and what `moves::after`
--                         gives: every terminal that is no end of a part of that button, or of a contact of that relay,
--                         has the sets that it had (`ElseSets`)
--     Keeping             a call that leaves a state and sets: a push or a release of a button, a move of a relay, a
--                         run over a lent log
--     Leaves b h k t      the call k on board b, given h, leaves t
--     Through b h ks t    the calls ks lead from h to t, one after the other, refused or not
--     AfterCalls b t      the sets of t are those of board b in its state; and on a board that breaks no rule y is in
--                         the set of x exactly where a conducting part joins them, so a pair stays joined while one of
--                         several parallel parts conducts (`KeptJoin`)
--     BelongAlways        so it is after any calls from a fresh state with its sets, or from any other
use Rattle.std.specs.Prelude.{ℕ, ◌≡◌, ◌⊎◌, true, List, [], ◌∷◌}
use Rattle.board.specs.declared.Board.{Board}
use Rattle.board.specs.Rules.{board_fine}
use Rattle.state.specs.declared.State.{State}
use Rattle.neighbours.specs.Neighbours.{sets_of}
use Rattle.kept.specs.declared.Kept.{Kept}
use Rattle.kept.specs.declared.Change.TheVariants.{Relay, Button}
use Rattle.kept.specs.Kept.{KeptOf, KeptFresh}
use Rattle.kept.specs.Eighteen.{KeptJoin}
use Rattle.kept.specs.OnlyEnds.{ElseSets}
use Rattle.presses.specs.declared.Pressed.{Pressed}
use Rattle.presses.specs.Presses.{Pushes, Releases}
use Rattle.moves.specs.declared.Move.{Move}
use Rattle.moves.specs.declared.Moved.{Moved}
use Rattle.moves.specs.Steps.{AfterMove}
use Rattle.moves.specs.Moving.{Moves}
use Rattle.runs.specs.declared.Ran.{Ran}
use Rattle.runs.specs.Running.{Runs}

pub record OnlyAtEnds : Type 0 where
  pub pushed : (b : Board) (h : Kept) (n : ℕ) (x : Pressed) → Pushes b h n x → ElseSets b (Button n) h x.kept
  pub released : (b : Board) (h : Kept) (n : ℕ) (x : Pressed) → Releases b h n x → ElseSets b (Button n) h x.kept
  pub moved : (b : Board) (h : Kept) (r : ℕ) (a : Moved) → Moves b h r a → ElseSets b (Relay r) h a.kept
  pub after : (b : Board) (h : Kept) (r : ℕ) (m : Move) (t : Kept) → AfterMove b h r m t → ElseSets b (Relay r) h t

pub data Keeping : Type 0 where
  push release move : ℕ → Keeping
  run : List ℕ → Keeping

abbrev pub Leaves : Board → Kept → Keeping → Kept → Type 0
Leaves b h (push n) t = (x : Pressed) × Pushes b h n x × (x.kept ≡ t)
Leaves b h (release n) t = (x : Pressed) × Releases b h n x × (x.kept ≡ t)
Leaves b h (move r) t = (a : Moved) × Moves b h r a × (a.kept ≡ t)
Leaves b h (run log) t = (a : Ran) × (l : List ℕ) × Runs b h log a l × (a.kept ≡ t)

unfoldable pub Through : Board → Kept → List Keeping → Kept → Type 0
Through b h [] t = h ≡ t
Through b h (k ∷ ks) t = (u : Kept) × Leaves b h k u × Through b u ks t

pub record AfterCalls (b : Board) (t : Kept) : Type 0 where
  pub worked_out : t.sets ≡ sets_of b t.state
  pub joining : board_fine b ≡ true → KeptJoin b t

abbrev pub BelongAlways : Type 0
BelongAlways =
    (b : Board) (h : Kept) (ks : List Keeping) (t : Kept)
    → KeptFresh b h ⊎ ((s : State) × KeptOf b s h)
    → Through b h ks t
    → AfterCalls b t
