-- `bits::all_below` meets its contract: every member of a word is below its room, and below that the code tests that no
-- bit is left from n on.
use borrow.Author.Rules.{rules}
use Rattle.bits.proofs.SetLaws.{within-room, within_shifted}
use Rattle.bits.proofs.all_below.Goals as goal

pub returns-then-n-ge-ROOM : goal.returns-then-n-ge-ROOM
returns-then-n-ge-ROOM c = search (rules, within-room)

pub returns-else-n-ge-ROOM : goal.returns-else-n-ge-ROOM
returns-else-n-ge-ROOM c = within_shifted c.args.set c.args.n
