-- `neighbours::row::Row::clear` meets its contract. The invariant: the sets of the terminals before the next are done,
-- and the others are as they were.
use Rattle.neighbours.proofs.RowLaws.{clear_starts, clear_after, clear_on, clear-ends}
use Rattle.neighbours.proofs.row.Row.clear.Goals as goal

pub loop-next-init : goal.loop-next-init
loop-next-init c = clear_starts _ _ _ c.lowest_from-next.ensures

pub loop-next-smaller : goal.loop-next-smaller
loop-next-smaller c =
    clear_after _ _ _ _ c.in-Some.is (c.loop-next.invariant.within _ c.in-Some.is) c.lowest_from-next-in-Some.ensures

pub loop-next-preserved : goal.loop-next-preserved
loop-next-preserved c =
    clear_on _ _ _ _ _ _ _ c.args.self.now.whole c.loop-next.invariant c.in-Some.is c.remaining.ensures
    c.lowest_from-next-in-Some.ensures

pub returns : goal.returns
returns c = clear-ends _ _ _ _ c.loop-next.invariant c.in_default.is
