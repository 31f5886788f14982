-- The theorem: two boards are the same, as `same` says, exactly if their counts are equal and their first C parts are,
-- by kind and fields.
use mathlib.Core.Path.{sym, ◌∙◌}
use Rattle.board.specs.SameExactly.{SameExactly}
use Rattle.board.proofs.SameLaws.{same_board_equal, equal-same_board}

pub same_exactly : SameExactly
same_exactly x y r is =
    (λ on. same_board_equal x y (sym is ∙ on), λ equal. is ∙ equal-same_board x y equal)
