-- `board_reader::counts::read_counts` is safe: a count that was read is at most its limit.
use Rattle.std.proofs.Common.{◌≤◌, sym, arith}
use Rattle.board_reader.specs.Editions.{current_edition}
use Rattle.board_reader.proofs.CountsLaws.{count_most}
use Rattle.board_reader.proofs.counts.read_counts.Goals as goal

pub overflow_cast-counts : goal.overflow_cast-counts
overflow_cast-counts c =
    let most : c.in-Ok.terminals.value ≤ c.from-2.result = count_most current_edition _ _ _ _ _ _
    (sym c.in-Ok.ensures) in
    record { fits = omega (arith, most, c.from-2.ensures) }

pub overflow_cast-counts-2 : goal.overflow_cast-counts-2
overflow_cast-counts-2 c =
    let most : c.in-Ok-read.relays.value ≤ c.from-3.result = count_most current_edition _ _ _ _ _ _
    (sym c.in-Ok-read.ensures) in
    record { fits = omega (arith, most, c.from-3.ensures) }

pub overflow_cast-counts-3 : goal.overflow_cast-counts-3
overflow_cast-counts-3 c =
    let most : c.in-Ok-read-2.buttons.value ≤ c.from-4.result = count_most current_edition _ _ _ _ _ _
    (sym c.in-Ok-read-2.ensures) in
    record { fits = omega (arith, most, c.from-4.ensures) }
