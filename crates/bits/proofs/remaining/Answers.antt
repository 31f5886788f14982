-- `bits::remaining` meets its contract.
use mathlib.Core.Path.{refl}
use Rattle.bits.specs.Sets.{remaining}
use Rattle.bits.proofs.remaining.Goals as goal

pub returns : goal.returns
unfolding remaining
returns c = refl
