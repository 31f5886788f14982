-- A shunted winding. Request A4: "a winding is shunted if its two ends are linked through conducting parts none of
-- which is a winding, over any terminals. A shunted winding is dead with effort 0, so any allowance settles it; it
-- still conducts for others. Document 000 doesn't have this; here our rule decides."
--     Shunted b s e     there is a row of terminals of board b from one end of winding e to the other, each joined to
--                       the next, in state s, by a conducting part that is no winding; poles may be among them
--     OnBoard b e       the ends of winding e are terminals of board b
--     ShuntedExactly    the test that judging goes by says so exactly then, of a winding on a board whose counts and
--                       parts fit
use Rattle.std.specs.Prelude.{◌<◌, ◌≡◌, ◌↔◌, true}
use Rattle.board.specs.declared.Board.{Board}
use Rattle.board.specs.BreaksNoRule.{BoardFits}
use Rattle.state.specs.declared.State.{State}
use Rattle.neighbours.specs.Neighbours.{JoinedBare, sets_of}
use Rattle.reach.specs.Links.{Link}
use Rattle.search.specs.declared.Winding.{Winding}
use Rattle.judge.specs.Judging.{shunted}

abbrev pub Shunted : Board → State → Winding → Type 0
Shunted b s e = Link (JoinedBare b s) b.counts.terminals e.a e.b

abbrev pub OnBoard : Board → Winding → Type 0
OnBoard b e = (e.a < b.counts.terminals) × (e.b < b.counts.terminals)

abbrev pub ShuntedExactly : Type 0
ShuntedExactly =
    (b : Board) (s : State) (e : Winding)
    → BoardFits b
    → OnBoard b e
    → shunted (sets_of b s) e ≡ true ↔ Shunted b s e
