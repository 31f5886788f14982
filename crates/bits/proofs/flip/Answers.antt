-- `bits::flip` meets its contract: below a word's room the code's `^` flips the bit, and from there on nothing changes.
use native.Mathlib.Omega.{arith}
use borrow.Author.Rules.{rules}
use Rattle.bits.proofs.SetLaws.{flip_shifted, flipped-beyond}
use Rattle.bits.proofs.flip.Goals as goal

pub returns-then-n-lt-ROOM : goal.returns-then-n-lt-ROOM
returns-then-n-lt-ROOM c = flip_shifted c.args.set c.args.n (omega arith)

pub returns-else-n-lt-ROOM : goal.returns-else-n-lt-ROOM
returns-else-n-lt-ROOM c = search (rules, flipped-beyond)
