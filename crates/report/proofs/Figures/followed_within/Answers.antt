-- `report::Figures::followed_within` meets its contract: no sum is too large, and the most moves are those of the
-- others only where these have more.
use Rattle.report.proofs.FigureLaws.{followed_more, followed_rest}
use Rattle.report.proofs.Figures.followed_within.Goals as goal

pub returns-then-self-others : goal.returns-then-self-others
returns-then-self-others c = followed_more _ _ c.if-self-others.true

pub returns-else-self-others : goal.returns-else-self-others
returns-else-self-others c = followed_rest _ _ c.if-self-others.false
