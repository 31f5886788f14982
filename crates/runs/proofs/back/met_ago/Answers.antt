-- `runs::back::met_ago` meets its contract: the loop looks back move by move.
use borrow.Author.Rules.{rules}
use Rattle.runs.proofs.BackLaws.{looking_met, looking_on, looking_none}
use Rattle.runs.proofs.back.met_ago.Goals as goal

pub returns-then-was-drawn : goal.returns-then-was-drawn
returns-then-was-drawn c = search (rules, looking_met)

pub loop-i-preserved : goal.loop-i-preserved
loop-i-preserved c = search (rules, looking_on)

pub returns : goal.returns
returns c = looking_none c.loop-i.invariant c.loop-i-test.false
