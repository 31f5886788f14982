-- `feed::served` meets its contract. The invariant: those are served so far that are not lost without one below x.
use borrow.Author.Rules.{rules}
use Rattle.feed.proofs.FeedLaws.{served_starts, served-ends}
use Rattle.feed.proofs.served.Goals as goal

pub loop-x-init : goal.loop-x-init
loop-x-init c = served_starts _

pub returns : goal.returns
returns c = search (rules, served-ends)
