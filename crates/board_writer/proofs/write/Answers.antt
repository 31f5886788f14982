-- `board_writer::write` meets its contract: refused by 15, then by 16, before any byte is written; else the file is,
-- which is all that was pushed.
use Rattle.std.proofs.Common.{◌≡◌, ◌∙◌, ◌++◌, sym, ap, length, true, arith}
use borrow.Author.Tests.{leb-true, leb-false}
use Rattle.refusals.proofs.LineLaws.{line_holds, line_refuses}
use Rattle.board.specs.Rules.{board_fine}
use Rattle.board.proofs.FineLaws.{fine_range}
use Rattle.board_writer.specs.File.{board_bytes}
use Rattle.board_writer.proofs.FileLaws.{board_file_bound}
use Rattle.board_writer.proofs.WriteLaws.{writing_broken, writing_short, writing_whole}
use Rattle.board_writer.proofs.write.Goals as goal

pub returns-in_err-unless : goal.returns-in_err-unless
returns-in_err-unless c =
    let refuses = line_refuses _ _ _ _ c.in_err-unless.ensures c.from_residual.ensures in
    writing_broken _ _ (sym c.check.ensures ∙ refuses.0) refuses.1

pub push_board-requires-clause-room : goal.push_board-requires-clause-room
push_board-requires-clause-room c =
    let fine : board_fine c.args.board ≡ true = sym c.check.ensures ∙ line_holds _ _ _ c.in_ok-unless.ensures in
    omega (arith, ap length c.new-file.ensures, board_file_bound c.args.board fine)

pub push_board-requires-clause-parts : goal.push_board-requires-clause-parts
push_board-requires-clause-parts c =
    let fine : board_fine c.args.board ≡ true = sym c.check.ensures ∙ line_holds _ _ _ c.in_ok-unless.ensures in
    (fine_range c.args.board fine).parts_few

pub returns-in_err-unless-2 : goal.returns-in_err-unless-2
returns-in_err-unless-2 c =
    let fine : board_fine c.args.board ≡ true = sym c.check.ensures ∙ line_holds _ _ _ c.in_ok-unless.ensures in
    let refuses = line_refuses _ _ _ _ c.in_err-unless-2.ensures c.from_residual-in_err-unless-2.ensures in
    writing_short _ _ fine
    (c.as_slice-bytes.ensures.value ∙ c.push_board.ensures ∙ ap (λ l. l ++ board_bytes c.args.board) c.new-file.ensures)
    (leb-false _ _ refuses.0) refuses.1

pub returns : goal.returns
returns c =
    let fine : board_fine c.args.board ≡ true = sym c.check.ensures ∙ line_holds _ _ _ c.in_ok-unless.ensures in
    rw c.copy_from_slice.ensures.after
    (writing_whole _ _ fine
    (c.as_slice-bytes.ensures.value ∙ c.push_board.ensures ∙ ap (λ l. l ++ board_bytes c.args.board) c.new-file.ensures)
    (leb-true _ _ (line_holds _ _ _ c.in_ok-unless-2.ensures)))
