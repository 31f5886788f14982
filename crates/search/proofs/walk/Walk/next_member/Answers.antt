-- `search::walk::Walk::next_member` meets its contract.
use borrow.Author.Rules.{rules}
use mathlib.Core.Path.{refl}
use Rattle.search.proofs.NextLaws.{next_none, next_past, next_some}
use Rattle.search.proofs.walk.Walk.next_member.Goals as goal

pub returns-in-Some-clause-lowest : goal.returns-in-Some-clause-lowest
returns-in-Some-clause-lowest c = search (rules, next_some)

pub returns-in_default-clause-lowest : goal.returns-in_default-clause-lowest
returns-in_default-clause-lowest c = search (rules, next_past)

pub returns-in_default-2-clause-lowest : goal.returns-in_default-2-clause-lowest
returns-in_default-2-clause-lowest c =
    next_none _ _ _ _ c.args.self.now.terminals c.requires.n_within c.args.self.now.few c.from.ensures refl
    c.in_default.ensures
