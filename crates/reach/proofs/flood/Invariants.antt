-- `reach::flood` meets its contract. The invariant: from those seen and those done, the flood comes to its result. The
-- measure falls because the set of those done grows.
use Prim.Native.Nat.{◌-◌, ◌^◌}
use Rattle.bits.specs.Sets.{room}
use Rattle.reach.specs.Floods.{flooded}
use Rattle.reach.proofs.FloodLaws.{Comes}
use Rattle.reach.proofs.flood.Given as goal

abbrev pub invariant-loop-next : goal.invariant-loop-next
invariant-loop-next l =
    Comes l.near l.out l.done l.seen (flooded l.near l.from l.out)

abbrev pub decreases-loop-next : goal.decreases-loop-next
decreases-loop-next l =
    2 ^ room - l.done
