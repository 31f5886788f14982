-- `file_cases::handed_case::write_any` meets its contract: a buffer as long as the longest file is long enough.
use Rattle.std.proofs.Common.{arith}
use Rattle.board_writer.proofs.FileLaws.{write_never_short}
use Rattle.file_cases.proofs.handed_case.write_any.Goals as goal

pub returns : goal.returns
returns c = write_never_short _ _ _ _ (omega arith) c.write.ensures
