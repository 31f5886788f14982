-- `judge::judge_by` meets its contract: a shunted winding is dead at once, any other goes by the search.
use borrow.Author.Rules.{rules}
use Rattle.judge.proofs.JudgeLaws.{judged-shunted, judged_else}
use Rattle.judge.proofs.judge_by.Goals as goal

pub returns-then-is_shunted : goal.returns-then-is_shunted
returns-then-is_shunted c = search (rules, judged-shunted)

pub returns-else-is_shunted : goal.returns-else-is_shunted
returns-else-is_shunted c = search (rules, judged_else)
