-- `demands::starred_boards` is the theorem.
use Rattle.demands.proofs.Starred.{starred_boards}
use Rattle.demands.proofs.starred_boards.Goals as goal

pub returns : goal.returns
returns c = starred_boards
