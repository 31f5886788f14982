-- `neighbours::row::Row::clear` meets its contract. The invariant: the sets of the terminals before the next are done,
-- and the others are as they were.
use Prim.Native.Nat.{◌-◌}
use Rattle.bits.specs.Sets.{room}
use Rattle.neighbours.proofs.RowLaws.{ClearedTo, next_or_room}
use Rattle.neighbours.proofs.row.Row.clear.Given as goal

abbrev pub invariant-loop-next : goal.invariant-loop-next
invariant-loop-next l = ClearedTo l.at l.fn.self.sets l.next l.self.sets

abbrev pub decreases-loop-next : goal.decreases-loop-next
decreases-loop-next l = room - next_or_room l.next
