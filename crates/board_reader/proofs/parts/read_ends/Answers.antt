-- `board_reader::parts::read_ends` is safe: a terminal that was read is below T.
use Rattle.std.proofs.Common.{◌<◌, sym, rules}
use Rattle.board_reader.specs.Editions.{current_edition}
use Rattle.board_reader.proofs.PartLaws.{terminal-below}
use Rattle.board_reader.proofs.parts.read_ends.Goals as goal

pub overflow_cast-result : goal.overflow_cast-result
overflow_cast-result c =
    let below : c.in-Ok.a.value < c.args.counts.terminals =
    terminal-below current_edition c.args.counts _ _ _ _ (sym c.in-Ok.ensures) in
    search rules

pub overflow_cast-result-2 : goal.overflow_cast-result-2
overflow_cast-result-2 c =
    let below : c.in-Ok-read.b.value < c.args.counts.terminals =
    terminal-below current_edition c.args.counts _ _ _ _ (sym c.in-Ok-read.ensures) in
    search rules
