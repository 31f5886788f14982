-- `demands::larger_never_changes` is the theorem.
use Rattle.demands.proofs.LargerNeverChanges.{larger_never_changes}
use Rattle.demands.proofs.larger_never_changes.Goals as goal

pub returns : goal.returns
returns c = larger_never_changes
