-- The proof of the cycle of calls {write_groups}. The measure is `left`, the groups that may be left.
use Rattle.number.proofs.+write_groups.Given as goal

abbrev pub decreases-write_groups : goal.decreases-write_groups
decreases-write_groups l =
    l.left
