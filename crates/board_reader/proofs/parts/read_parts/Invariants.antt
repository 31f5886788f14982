-- `board_reader::parts::read_parts` meets its contract. The invariant: the parts read so far fill the array and give
-- the windings and marks so far, and those of the definition are these and then the ones from the present place on.
use Rattle.std.proofs.Common.{◌≡◌, ◌≤◌, length}
use Rattle.board.specs.Parts.{most_parts}
use Rattle.board_reader.specs.Editions.{current_edition}
use Rattle.board_reader.proofs.PartsLaws.{Walk}
use Rattle.board_reader.proofs.parts.read_parts.Given as goal

abbrev pub invariant-loop-i : goal.invariant-loop-i
invariant-loop-i l = record {
  few : l.counts.parts ≤ most_parts;
  long : length l.row.parts ≡ most_parts;
  walk : Walk current_edition l.counts l.s l.start l.initial.row.windings l.row.parts l.row.windings l.at l.i;
}
