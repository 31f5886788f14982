-- Answers and what they tell: each can be had from the other; and a read is refused by numbers of the table alone.
use mathlib.Core.Path.{refl}
use Rattle.refusals.proofs.Tabled.{Tabled, Tells, result-tells, beside-tells}
use Rattle.board_reader.specs.Reading.{told_board_read}

pub board_read_tells : Tells (λ y. Tabled y.1) told_board_read
board_read_tells =
    beside-tells _ result-tells (λ s a. record { board = s; answer = a })
    (λ x. x.board) (λ x. x.answer) (λ x. refl) (λ s a. refl)
