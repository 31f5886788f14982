-- The proof of the cycle of calls {count_groups}. The measure is `left`, the groups that may be left.
use Rattle.number.proofs.+count_groups.Given as goal

abbrev pub decreases-count_groups : goal.decreases-count_groups
decreases-count_groups l =
    l.left
