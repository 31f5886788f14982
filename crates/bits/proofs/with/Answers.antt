-- `bits::with` meets its contract: from a word's room on nothing changes, and below that the code's `|` sets the bit.
use mathlib.Core.Path.{sym}
use native.Mathlib.Omega.{arith}
use Rattle.bits.proofs.SetLaws.{including-beyond, with_shifted}
use Rattle.bits.proofs.with.Goals as goal

pub returns-else-n-lt-ROOM : goal.returns-else-n-lt-ROOM
returns-else-n-lt-ROOM c = sym (including-beyond c.args.set c.args.n (omega arith))

pub returns-then-n-lt-ROOM : goal.returns-then-n-lt-ROOM
returns-then-n-lt-ROOM c = with_shifted c.args.set c.args.n (omega arith)
