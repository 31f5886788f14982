-- `board_writer::push_part`: the fields so far stand behind the kind.
use Rattle.std.proofs.Common.{◌≡◌, ◌++◌, take}
use Rattle.number.specs.Numbers.{number_bytes}
use Rattle.kinds.specs.Kinds.{kind_number}
use Rattle.board_writer.specs.File.{row_bytes}
use Rattle.board_writer.proofs.push_part.Given as goal

abbrev pub invariant-loop-field : goal.invariant-loop-field
invariant-loop-field l =
    l.file.items ≡ l.fn.file.items ++ number_bytes (kind_number l.fn.part.kind)
    ++ row_bytes number_bytes (take l.field-index l.field-items)
