-- `search::walk::showing_none` meets its contract: the 64 places are 0.
use mathlib.Core.Path.{refl}
use Rattle.search.specs.Verdicts.{places}
use Rattle.search.proofs.walk.showing_none.Goals as goal

pub returns : goal.returns
unfolding places
returns c = refl
