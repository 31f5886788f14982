-- `search::walk::Walk::enter` and `search::walk::Walk::try_next`, which call each other, meet their contracts. The
-- measure that falls at each call: a hundred for each terminal that the chain has still room for, then 99 where a
-- terminal is entered, or the numbers not yet tried where a neighbour is.
use borrow.Author.Rules.{rules}
use native.Mathlib.Omega.{arith}
use Rattle.search.proofs.WalkLaws.{enter_spent, enter_showing, enter-ended, enter_full, enter_on}
use Rattle.search.proofs.WalkLaws.{trying, try_none, next-carries, carries_still, try_on, try_back}
use Rattle.search.proofs.WalkLaws.{visits_fall, numbers_fall}
use Rattle.search.proofs.walk.Walk.+enter_try_next.Goals as goal

pub enter-returns-then-left-eq0 : goal.enter-returns-then-left-eq0
enter-returns-then-left-eq0 t c = search (rules, enter_spent)

pub enter-returns-then-chain : goal.enter-returns-then-chain
enter-returns-then-chain t c = search (rules, enter_showing)

pub enter-returns-then-chain-eq-MINUS : goal.enter-returns-then-chain-eq-MINUS
enter-returns-then-chain-eq-MINUS t c = search (rules, enter-ended)

pub enter-returns : goal.enter-returns
enter-returns t c = search (rules, enter_on)

pub enter-returns-then-from-length : goal.enter-returns-then-from-length
enter-returns-then-from-length t c = search (rules, enter_full)

pub try_next-enter-walked-requires : goal.try_next-enter-walked-requires
try_next-enter-walked-requires t c = search (rules, trying, next-carries, visits_fall)

pub try_next-returns-in_default : goal.try_next-returns-in_default
try_next-returns-in_default t c = search (rules, trying, try_none)

pub try_next-try_next-requires : goal.try_next-try_next-requires
try_next-try_next-requires t c =
    let known =
    trying _ c.requires.carries c.from.ensures c.remaining-unmet.ensures c.requires.n_within c.args.self.now.few
    c.requires.length_below c.in-Some.ensures.lowest in
    let below = c.in-Some.ensures.below in (
      numbers_fall known c.on_to-longer.ensures below c.decreases,
      (
        carries_still known c.on_to-longer.ensures below _ c.enter-walked.ensures,
        (known.short, omega (arith, below)),
      ),
    )

pub try_next-returns : goal.try_next-returns
try_next-returns t c =
    let known =
    trying _ c.requires.carries c.from.ensures c.remaining-unmet.ensures c.requires.n_within c.args.self.now.few
    c.requires.length_below c.in-Some.ensures.lowest in
    try_on known c.on_to-longer.ensures c.in-Some.ensures.below _ c.enter-walked.ensures c.in-ShowingNone.is
    c.try_next.ensures

pub try_next-returns-in_default-found : goal.try_next-returns-in_default-found
try_next-returns-in_default-found t c =
    let known =
    trying _ c.requires.carries c.from.ensures c.remaining-unmet.ensures c.requires.n_within c.args.self.now.few
    c.requires.length_below c.in-Some.ensures.lowest in
    try_back known c.on_to-longer.ensures c.in-Some.ensures.below _ c.enter-walked.ensures
    c.in_default-found.not-ShowingNone
