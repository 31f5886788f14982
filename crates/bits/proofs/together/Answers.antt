-- `bits::together` meets its contract.
use mathlib.Core.Path.{refl}
use Rattle.bits.specs.Sets.{together}
use Rattle.bits.proofs.together.Goals as goal

pub returns : goal.returns
unfolding together
returns c = refl
