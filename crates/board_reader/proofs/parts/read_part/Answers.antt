-- `board_reader::parts::read_part` is safe: a relay or button that was read is below R or B.
use Rattle.std.proofs.Common.{sym, arith}
use Rattle.board_reader.proofs.PartLaws.{name_below}
use Rattle.board_reader.proofs.parts.read_part.Goals as goal

pub overflow_cast-name : goal.overflow_cast-name
overflow_cast-name c = record {
  fits = name_below _ _ _ _ _ _ _ 256 (sym c.in-Ok-read-2.ensures) (omega (arith, c.well_formed.1.1.0.1.1.1.0.1))
      (omega (arith, c.well_formed.1.1.0.1.1.1.1.0.1)) (omega arith);
}
