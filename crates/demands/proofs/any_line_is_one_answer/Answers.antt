-- `demands::any_line_is_one_answer` is the theorem.
use Rattle.demands.proofs.OneAnswer.{one_itself}
use Rattle.demands.proofs.any_line_is_one_answer.Goals as goal

pub returns : goal.returns
returns g c = λ t e. one_itself _
