-- `search::walk::from_plus` meets its contract.
use borrow.Author.Rules.{rules}
use Rattle.search.proofs.WalkLaws.{begun_path, begun-carries, entered-left, entered_verdict}
use Rattle.search.proofs.walk.from_plus.Goals as goal

pub enter-walked-requires : goal.enter-walked-requires
enter-walked-requires c = search (rules, begun_path, begun-carries)

pub verdict-requires : goal.verdict-requires
verdict-requires c = search (rules, entered-left)

pub returns : goal.returns
returns c = search (rules, begun_path, entered_verdict)
