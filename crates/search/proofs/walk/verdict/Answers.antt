-- `search::walk::verdict` meets its contract: in each arm it is known what the walk found.
use borrow.Author.Rules.{rules}
use Rattle.search.proofs.ScanLaws.{concluded_none, concluded_spent}
use Rattle.search.proofs.walk.verdict.Goals as goal

pub returns-in-ShowingNone : goal.returns-in-ShowingNone
returns-in-ShowingNone c = search (rules, concluded_none)

pub returns-in-AllowanceSpent : goal.returns-in-AllowanceSpent
returns-in-AllowanceSpent c = search (rules, concluded_spent)
