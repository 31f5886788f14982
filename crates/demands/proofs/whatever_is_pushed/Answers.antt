-- `demands::whatever_is_pushed` is the theorem.
use Rattle.demands.proofs.WhateverIsPushed.{whatever-is_pushed}
use Rattle.demands.proofs.whatever_is_pushed.Goals as goal

pub returns : goal.returns
returns c = whatever-is_pushed
