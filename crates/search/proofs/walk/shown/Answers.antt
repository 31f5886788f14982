-- `search::walk::shown` meets its contract: the places past the chain are made 0.
use borrow.Author.Rules.{rules}
use Rattle.search.proofs.ShownLaws.{shown_cleared}
use Rattle.search.proofs.walk.shown.Goals as goal

pub returns : goal.returns
returns c = shown_cleared _ _ _ (search rules) c.requires (c.fill.ensures.after (λ y e. e))
