-- `cases::typed::read_text` is safe and ends: what was read lies in the buffer, and each read leaves less room.
use Rattle.std.proofs.Common.{◌≡◌, ◌-◌, ◌≤◌, length}
use Rattle.cases.proofs.typed.read_text.Given as goal

abbrev pub invariant-loop-length : goal.invariant-loop-length
invariant-loop-length g l = (l.length ≤ 65536) × (length l.text ≡ 65536)

abbrev pub decreases-loop-length : goal.decreases-loop-length
decreases-loop-length g l = length l.text - l.length
