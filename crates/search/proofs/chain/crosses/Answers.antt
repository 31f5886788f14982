-- `search::chain::crosses` meets its contract: the step goes from a to b, or else from b to a.
use borrow.Author.Rules.{rules}
use Rattle.search.proofs.CarryLaws.{crosses_there, crosses_back}
use Rattle.search.proofs.chain.crosses.Goals as goal

pub returns-then-is_step : goal.returns-then-is_step
returns-then-is_step c = search (rules, crosses_there)

pub returns-else-is_step : goal.returns-else-is_step
returns-else-is_step c = search (rules, crosses_back)
