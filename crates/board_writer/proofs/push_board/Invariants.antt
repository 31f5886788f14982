-- `board_writer::push_board`: the parts so far stand behind the counts.
use Rattle.std.proofs.Common.{◌≡◌, ◌++◌, take}
use Rattle.board_writer.specs.File.{counts_bytes, parts_bytes}
use Rattle.board_writer.proofs.push_board.Given as goal

abbrev pub invariant-loop-part : goal.invariant-loop-part
invariant-loop-part l =
    l.file.items ≡ (l.fn.file.items ++ counts_bytes l.fn.board.counts)
    ++ parts_bytes (take l.part-index l.part-items)
