-- `bits::without` meets its contract: a member of a word is below its room, and there the code's `^` clears the bit
-- that `has` found set.
use mathlib.Core.Path.{sym, ◌∙◌}
use native.Mathlib.Omega.{arith}
use borrow.Author.Rules.{rules}
use Rattle.bits.specs.Sets.{room}
use Rattle.bits.proofs.SetLaws.{member_below, excluding_absent, without_shifted}
use Rattle.bits.proofs.without.Goals as goal

pub overflow_shl-result : goal.overflow_shl-result
overflow_shl-result c =
    member_below c.args.set room c.args.n (omega arith)
    (sym c.has.ensures ∙ c.if-has.true)

pub returns-then-has : goal.returns-then-has
returns-then-has c = search (rules, without_shifted)

pub returns-else-has : goal.returns-else-has
returns-else-has c = search (rules, excluding_absent)
