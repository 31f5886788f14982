-- `runs::back::Notches::cut` meets its contract.
use borrow.Author.Rules.{rules}
use mathlib.Core.Path.{refl}
use Rattle.runs.proofs.NotchLaws.{place-within}
use Rattle.runs.specs.LookingBack.{with_notch}
use Rattle.runs.proofs.back.Notches.cut.Goals as goal

pub bounds-self-word : goal.bounds-self-word
bounds-self-word g c = search (rules, place-within)

pub bounds-self-word-2 : goal.bounds-self-word-2
bounds-self-word-2 g c = search (rules, place-within)

pub returns : goal.returns
unfolding with_notch
returns g c = rw (c.with.ensures, c.place-at.ensures) refl
