-- `board_writer::push_board` adds a board's file: the counts, then part after part; each has room, since all have.
use Rattle.std.proofs.Common.{◌∙◌, sym, ap, ◌++◌, length, arith, length-append, append_assoc}
use Rattle.board.specs.Parts.{parts_of}
use Rattle.board_writer.specs.File.{counts_bytes, part_bytes, parts_bytes}
use Rattle.board_writer.proofs.LengthLaws.{pushed-on, pushed-room, pushed-none, pushed-all}
use Rattle.board_writer.proofs.WriteLaws.{board_bytes_sum, board_bytes_are}
use Rattle.board_writer.proofs.push_board.Goals as goal

pub push_counts-requires-clause-room : goal.push_counts-requires-clause-room
push_counts-requires-clause-room c = omega (arith, c.requires.room, board_bytes_sum c.args.board)

pub loop-part-init : goal.loop-part-init
loop-part-init c = pushed-none part_bytes c.parts-part-items.result.now _ c.push_counts.ensures

pub push_part-requires : goal.push_part-requires
push_part-requires c =
    pushed-room part_bytes _ _ _ c.loop-part-test.true _ c.loop-part.invariant
    (omega (
      arith,
      c.requires.room,
      board_bytes_sum c.args.board,
      ap (λ ps. length (parts_bytes ps)) c.parts-part-items.ensures,
      length-append c.args.file.now.items (counts_bytes c.args.board.counts),
    ))

pub loop-part-preserved : goal.loop-part-preserved
loop-part-preserved c = pushed-on part_bytes _ _ _ c.loop-part-test.true _ c.loop-part.invariant c.push_part.ensures

pub returns : goal.returns
returns c =
    pushed-all part_bytes _ _ c.loop-part-test.false c.loop-part.invariant
    ∙ ap (λ ps. (c.args.file.now.items ++ counts_bytes c.args.board.counts) ++ parts_bytes ps)
    c.parts-part-items.ensures
    ∙ append_assoc c.args.file.now.items (counts_bytes c.args.board.counts)
    (parts_bytes (parts_of c.args.board))
    ∙ ap (λ l. c.args.file.now.items ++ l) (sym (board_bytes_are c.args.board))
