-- `judge::winding_for` meets its contract: refused by 15, 14 and 18 as `usable` says, else by 11 where the relay lacks
-- it.
use borrow.Author.Rules.{rules}
use Rattle.judge.proofs.JudgeLaws.{asked-usable, asked_unusable}
use Rattle.judge.proofs.winding_for.Goals as goal

pub returns-in_err-usable : goal.returns-in_err-usable
returns-in_err-usable c = search (rules, asked_unusable)

pub returns : goal.returns
returns c = search (rules, asked-usable)
