-- `bits::lowest_from` meets its contract: the trailing zeros from bit n on lead to the lowest member, or past a word's
-- room.
use native.Mathlib.Omega.{arith}
use mathlib.Core.Path.{refl}
use Rattle.bits.proofs.LowestLaws.{trailing-some, trailing-none, member_from-beyond}
use Rattle.bits.proofs.lowest_from.Goals as goal

pub returns-then-n-ge-ROOM : goal.returns-then-n-ge-ROOM
returns-then-n-ge-ROOM c = member_from-beyond _ _ c.if-n-ge-ROOM.true

pub returns-then-lowest-lt-ROOM : goal.returns-then-lowest-lt-ROOM
returns-then-lowest-lt-ROOM c = trailing-some c.args.set c.args.n _ (omega arith) refl c.if-lowest-lt-ROOM.true

pub returns-else-lowest-lt-ROOM : goal.returns-else-lowest-lt-ROOM
returns-else-lowest-lt-ROOM c = trailing-none c.args.set c.args.n _ (omega arith) refl c.if-lowest-lt-ROOM.false
