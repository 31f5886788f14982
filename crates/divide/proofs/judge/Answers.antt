-- `divide::judge` meets its contract: the winding it asks for is judged by the sets, or the call is refused.
use borrow.Author.Rules.{rules}
use Rattle.divide.proofs.AtOnceLaws.{judging-told, judging_refused}
use Rattle.divide.proofs.judge.Goals as goal

pub returns-in_err-winding : goal.returns-in_err-winding
returns-in_err-winding c = search (rules, judging_refused)

pub returns : goal.returns
returns c = search (rules, judging-told)
