-- `feed::linked_to` meets its contract: by the lower terminal's, which is the same, or by the flood.
use borrow.Author.Rules.{rules}
use Rattle.feed.proofs.FeedLaws.{shared_by}
use Rattle.feed.proofs.linked_to.Goals as goal

pub returns-in-Some : goal.returns-in-Some
returns-in-Some c = search (rules, shared_by)
