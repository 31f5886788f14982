-- `number_length` counts the groups of a number of the longest form.
use Rattle.number.specs.Numbers.{number_bytes}
use Rattle.number.proofs.number_length.Goals as goal

pub returns : goal.returns
unfolding number_bytes
returns c = c.count_groups.ensures
