-- `divide::check` meets its contract: refused as the judge is, then by 19, else by what the test says.
use borrow.Author.Rules.{rules}
use Rattle.divide.proofs.AtOnceLaws.{checking_left, checking-ends, checking_given}
use Rattle.divide.proofs.check.Goals as goal

pub returns-in_err-winding : goal.returns-in_err-winding
returns-in_err-winding c = search (rules, checking_left)

pub returns-in_err-unless : goal.returns-in_err-unless
returns-in_err-unless c = search (rules, checking-ends)

pub returns : goal.returns
returns c = search (rules, checking_given)
