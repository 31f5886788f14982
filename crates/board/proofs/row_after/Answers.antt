-- `board::row_after` meets its contract. The invariant: all the parts come to what those that are left come to after
-- the windings and marks so far.
use borrow.Author.Rules.{rules}
use Rattle.board.proofs.RuleLaws.{row_walk_off, row_walk_on, row_walk_end}
use Rattle.board.proofs.row_after.Goals as goal

pub returns-then-not-part_fine : goal.returns-then-not-part_fine
returns-then-not-part_fine c = search (rules, row_walk_off)

pub loop-part-preserved : goal.loop-part-preserved
loop-part-preserved c = search (rules, row_walk_on)

pub returns : goal.returns
returns c = search (rules, row_walk_end)
