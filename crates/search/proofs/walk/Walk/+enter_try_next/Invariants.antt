-- `search::walk::Walk::enter` and `search::walk::Walk::try_next`, which call each other, meet their contracts. The
-- measure that falls at each call: a hundred for each terminal that the chain has still room for, then 99 where a
-- terminal is entered, or the numbers not yet tried where a neighbour is.
use Prim.Native.Nat.{◌+◌, ◌-◌, ◌*◌}
use Rattle.search.proofs.walk.Walk.+enter_try_next.Given as goal

abbrev pub decreases-enter : goal.decreases-enter
decreases-enter l =
    (l.self.now.terminals - l.chain.length) * 100 + 99

abbrev pub decreases-try_next : goal.decreases-try_next
decreases-try_next l =
    (l.self.now.terminals - l.chain.length) * 100 + (l.self.now.terminals - l.n)
