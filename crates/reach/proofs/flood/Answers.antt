-- `reach::flood` meets its contract. The invariant: from those seen and those done, the flood comes to its result. The
-- measure falls because the set of those done grows.
use borrow.Author.Rules.{rules}
use Rattle.reach.proofs.FloodLaws.{comes_begin, next_below, done_grows, comes_on, comes_end}
use Rattle.reach.proofs.flood.Goals as goal

pub loop-next-init : goal.loop-next-init
loop-next-init c = comes_begin _ _ _ _ c.remaining-seen.ensures

pub bounds-near-next : goal.bounds-near-next
bounds-near-next c = next_below _ _ _ c.remaining.ensures _ c.in-Some.ensures

pub loop-next-smaller : goal.loop-next-smaller
loop-next-smaller c = search (rules, done_grows)

pub loop-next-preserved : goal.loop-next-preserved
loop-next-preserved c = search (rules, comes_on)

pub returns : goal.returns
returns c = comes_end _ _ _ c.remaining.ensures c.loop-next.invariant c.in_default.ensures
