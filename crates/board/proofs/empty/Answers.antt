-- `board::empty` meets its contract: its 256 places are blank.
use borrow.Author.Rules.{rules}
use Rattle.board.specs.Parts.{empty_board, padded}
use Rattle.board.proofs.empty.Goals as goal

pub returns : goal.returns
unfolding empty_board padded
returns c = search rules
