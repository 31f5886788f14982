-- `moves::step_by` meets its contract: the step goes by what is worked out of the sets, and by the relay's windings.
use borrow.Author.Rules.{rules}
use Rattle.moves.proofs.StepLaws.{step_worked}
use Rattle.moves.proofs.step_by.Goals as goal

pub returns : goal.returns
returns c = search (rules, step_worked)
