-- `moves::after` meets its contract: a relay that moved changes the state and what is kept beside it.
use borrow.Author.Rules.{rules}
use Rattle.moves.proofs.StepLaws.{after_drew, after_dropped}
use Rattle.moves.proofs.after.Goals as goal

pub returns-in-Drew : goal.returns-in-Drew
returns-in-Drew c = search (rules, after_drew)

pub returns-in-Dropped : goal.returns-in-Dropped
returns-in-Dropped c = search (rules, after_dropped)
