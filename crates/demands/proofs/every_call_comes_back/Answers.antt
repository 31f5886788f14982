-- `demands::every_call_comes_back` is the theorem.
use Rattle.demands.proofs.EveryCallComesBack.{every-call-comes_back}
use Rattle.demands.proofs.every_call_comes_back.Goals as goal

pub returns : goal.returns
returns c = every-call-comes_back
