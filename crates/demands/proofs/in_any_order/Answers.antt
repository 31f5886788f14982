-- `demands::in_any_order` is the theorem.
use Rattle.demands.proofs.InAnyOrder.{in-any_order}
use Rattle.demands.proofs.in_any_order.Goals as goal

pub returns : goal.returns
returns c = in-any_order
