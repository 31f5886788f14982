-- `feed::reached_without` meets its contract: the flood from the poles, with that terminal taken out.
use Rattle.feed.proofs.FeedLaws.{reached_by}
use Rattle.feed.proofs.reached_without.Goals as goal

pub returns : goal.returns
returns c = reached_by _ _ _ _ c.with.ensures c.flood.ensures
