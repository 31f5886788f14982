-- `bits::has` meets its contract: a word has no member from its room on, and below that the code tests the bit as the
-- definition does.
use mathlib.Core.Path.{refl, sym, ◌∙◌}
use native.Mathlib.Omega.{arith}
use borrow.Author.Tests.{le-ltb}
use Rattle.bits.specs.Sets.{room, member}
use Rattle.bits.proofs.SetLaws.{member-beyond}
use Rattle.bits.proofs.has.Goals as goal

pub returns-else-n-lt-ROOM : goal.returns-else-n-lt-ROOM
unfolding member
returns-else-n-lt-ROOM c =
    le-ltb c.args.n room c.if-n-lt-ROOM.false ∙ sym (member-beyond c.args.set room c.args.n (omega arith) (omega arith))

pub returns-then-n-lt-ROOM : goal.returns-then-n-lt-ROOM
unfolding member
returns-then-n-lt-ROOM c = refl
