-- `board::check` meets its contract: the counts first, within their ranges the parts, after the last part 9, and
-- then the start.
use borrow.Author.Rules.{rules}
use Rattle.board.proofs.FineLaws.{check_counts, check_row, check_lacking, check_start}
use Rattle.board.proofs.check.Goals as goal

pub returns-then-not-counts_fine : goal.returns-then-not-counts_fine
returns-then-not-counts_fine c = search (rules, check_counts)

pub returns-in_default : goal.returns-in_default
returns-in_default c = search (rules, check_row)

pub returns-then-complete : goal.returns-then-complete
returns-then-complete c = search (rules, check_start)

pub returns-else-complete : goal.returns-else-complete
returns-else-complete c = search (rules, check_lacking)
