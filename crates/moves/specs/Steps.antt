-- What a relay does in a state. Rule book: "Regular: its winding is always judged .. it draws if dropped and live,
-- drops if drawn and dead, else rests. Steel: both windings are always judged .. Both live: conflict. Otherwise it
-- draws if dropped and the drawing winding is live, drops if drawn and the dropping winding is live, else rests."
-- Request A6: "Runs and single moves use the new judge", which knows no allowance.
--     Move                      what a move comes to: drew, dropped, rests or conflict (request A7)
--     regular_move d l          what a regular relay does, drawn if d, its winding live if l; what is not live is dead
--     steel_move d x y          what a steel relay does, drawn if d, its drawing winding live if x and its dropping
--                               winding live if y
--     move_by live d x          what a relay with the windings x does, drawn if d, where `live` says which of them are
--                               live; what the board lacks rests
--     taken_live k t v          winding v is taken for live, by the sets k of t terminals: by the served terminals and
--                               those linked to each
--     step_by k b s r           what relay r of board b does in state s, by the sets k
--     step_of b s r             the same by the sets of the board in that state. Runs know it by its laws alone
--     made s r m                the state after relay r came to m: "A move changes that relay and nothing else"
--     kept_made b h r m         the same with the kept sets: where it moved, they are kept up with it (request A5)
--     told_move                 the answer's cases in the rule book's words
--     StepsRelay f x d m        promise: `step` of a relay with the windings x, drawn if d, by any served and linked
--                               terminals f, answers m
--     AfterMove b h r m t       promise: `after` relay r of board b came to m from h answers t
-- `moves_means` shows that a winding is taken for live exactly if the judge of `divide` says that it is.
use Rattle.std.specs.Prelude.{ℕ, ◌≡◌, Bool, not, cond, ◌&&◌, Option}
use Rattle.board.specs.declared.Board.{Board}
use Rattle.board.specs.Parts.{parts_of}
use Rattle.state.specs.declared.State.{State}
use Rattle.state.specs.States.{is_drawn, with_drawn, with_dropped}
use Rattle.neighbours.specs.declared.Sets.{Sets}
use Rattle.neighbours.specs.Neighbours.{sets_of}
use Rattle.kept.specs.declared.Kept.{Kept}
use Rattle.kept.specs.declared.Change.TheVariants.{Relay}
use Rattle.kept.specs.Upkeep.{changed_to}
use Rattle.search.specs.declared.Winding.{Winding}
use Rattle.feed.specs.declared.Feed.{Feed}
use Rattle.feed.specs.Feeds.{served, linked, live_by}
use Rattle.judge.specs.declared.Windings.{Windings}
use Rattle.judge.specs.RelayWindings.{OfRelay, regular, steel, absent, windings_at, told_windings}
use Rattle.moves.specs.declared.Move as code-move
use Rattle.moves.specs.declared.Move.TheVariants as said

pub data Move : Type 0 where
  drew dropped rests conflict : Move

unfoldable pub regular_move : Bool → Bool → Move
regular_move d l = cond (not d && l) drew (cond (d && not l) dropped rests)

unfoldable pub steel_move : Bool → Bool → Bool → Move
steel_move d x y = cond (x && y) conflict (cond (not d && x) drew (cond (d && y) dropped rests))

abbrev pub move_by : (Winding → Bool) → Bool → OfRelay Winding → Move
move_by live d (regular v) = regular_move d (live v)
move_by live d (steel v u) = steel_move d (live v) (live u)
move_by live d absent = rests

unfoldable pub taken_live : Sets → ℕ → Winding → Bool
taken_live k t v = live_by (served k.near t) (linked k.bare t) v

unfoldable pub step_by : Sets → Board → State → ℕ → Move
step_by k b s r = move_by (taken_live k b.counts.terminals) (is_drawn s r) (windings_at r (parts_of b))

unfoldable pub step_of : Board → State → ℕ → Move
step_of b s r = step_by (sets_of b s) b s r

abbrev pub made : State → ℕ → Move → State
made s r drew = with_drawn s r
made s r dropped = with_dropped s r
made s r rests = s
made s r conflict = s

abbrev pub kept_made : Board → Kept → ℕ → Move → Kept
kept_made b h r drew = changed_to h b (Relay r) (with_drawn h.state r)
kept_made b h r dropped = changed_to h b (Relay r) (with_dropped h.state r)
kept_made b h r rests = h
kept_made b h r conflict = h

abbrev pub told_move : code-move.Move → Move
told_move said.Drew = drew
told_move said.Dropped = dropped
told_move said.Rests = rests
told_move said.Conflict = conflict

abbrev pub StepsRelay : Feed → Option Windings → Bool → code-move.Move → Type 0
StepsRelay f x d m = told_move m ≡ move_by (live_by f.served f.linked) d (told_windings x)

abbrev pub AfterMove : Board → Kept → ℕ → code-move.Move → Kept → Type 0
AfterMove b h r m t = t ≡ kept_made b h r (told_move m)
