-- A board that was read breaks no rule of refusals 3 to 9 and 17 and carries its marks' start, whatever the input, and
-- its bytes stand at the input's beginning.
-- Read-then-write goes by this, and so does what is told of a session's events.
use Prim.Native.Nat.{ℕ}
use mathlib.Core.List.{List}
use lib.Dec.{leb}
use lib.ListN.{length}
use Rattle.refusals.specs.declared.Found.{Found}
use Rattle.refusals.specs.Outcomes.{Outcome, given, refused}
use Rattle.refusals.specs.Refusals.{input_too_long}
use Rattle.board.specs.declared.Board.{Board}
use Rattle.board_reader.specs.Editions.{Edition}
use Rattle.board_reader.specs.Reading.{longest_input, board_at, answered, reading}
use Rattle.board_reader.proofs.EditionLaws.{Known}
use Rattle.file_means.proofs.GivesLaws.{Gives, gives-unless}
use Rattle.file_means.proofs.BoardTrip.{BoardIsFine, board_read}

answer_read : (e : Edition) (s : List ℕ) (o : Outcome (Found Board))
    → Gives (λ (b : Found Board). BoardIsFine e s b.value b.next) o → Gives (BoardIsFine e s (answered o).0)
    (answered o).1
unfolding answered
answer_read e s (given b) was = was
answer_read e s (refused n p) was = tt

pub read_fine : (e : Edition) → Known e → (s : List ℕ) → Gives (BoardIsFine e s (reading e s).0) (reading e s).1
unfolding reading
read_fine e known s =
    answer_read e s _ (gives-unless _ (leb (length s) longest_input) input_too_long 0 (board_at e s)
    (λ short. board_read e known s))
