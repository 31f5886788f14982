-- `cases::handed::board` meets its contract: the parts so far are those of the bytes.
use Rattle.std.proofs.Common.{◌≡◌, ℕ, ◌+◌, ◌*◌, ◌<◌, length, slice_index_or}
use Rattle.board.specs.declared.Part.{Part}
use Rattle.cases.specs.Handed.{handed_part}
use Rattle.cases.proofs.handed.board.Given as goal

abbrev pub invariant-loop-i : goal.invariant-loop-i
invariant-loop-i l = record {
  long : length l.part-items ≡ 256;
  so_far : (j : ℕ) (p : Part) → j < l.i → slice_index_or l.part-items j p ≡ handed_part l.bytes (10 + 4 * j);
}
