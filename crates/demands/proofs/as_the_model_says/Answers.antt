-- `demands::as_the_model_says` is the theorem.
use Rattle.demands.proofs.AsTheModelSays.{as_the_model_says}
use Rattle.demands.proofs.as_the_model_says.Goals as goal

pub returns : goal.returns
returns c = as_the_model_says
