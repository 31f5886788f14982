-- `feed::served_without` meets its contract: what is lost without the terminal is taken away, or it is passed over.
use borrow.Author.Rules.{rules}
use Rattle.feed.proofs.FeedLaws.{taken_out, passed_over}
use Rattle.feed.proofs.served_without.Goals as goal

pub returns-then-has : goal.returns-then-has
returns-then-has c = search (rules, taken_out)

pub returns-else-has : goal.returns-else-has
returns-else-has c = search (rules, passed_over)
