-- `board::row_after` meets its contract. The invariant: all the parts come to what those that are left come to after
-- the windings and marks so far.
use mathlib.Core.Path.{◌≡◌}
use lib.ListN.{drop}
use Rattle.board.specs.Rules.{row_after}
use Rattle.board.proofs.row_after.Given as goal

abbrev pub invariant-loop-part : goal.invariant-loop-part
invariant-loop-part l =
    row_after l.counts l.fn.windings l.parts ≡ row_after l.counts l.after (drop l.part-index l.parts)
