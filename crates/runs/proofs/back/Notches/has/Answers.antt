-- `runs::back::Notches::has` meets its contract.
use borrow.Author.Rules.{rules}
use mathlib.Core.Path.{refl, ◌∙◌}
use Rattle.runs.proofs.NotchLaws.{place-within}
use Rattle.runs.specs.LookingBack.{has_notch}
use Rattle.runs.proofs.back.Notches.has.Goals as goal

pub bounds-self-at : goal.bounds-self-at
bounds-self-at g c = search (rules, place-within)

pub returns : goal.returns
unfolding has_notch
returns g c = c.has.ensures ∙ rw c.place-at.ensures refl
