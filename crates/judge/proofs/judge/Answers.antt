-- `judge::judge` meets its contract: the winding it asks for is judged by the sets, or the call is refused.
use borrow.Author.Rules.{rules}
use mathlib.Core.Path.{sym, ◌∙◌}
use Rattle.judge.proofs.JudgeLaws.{judging_by, judging-kept}
use Rattle.judge.proofs.judge.Goals as goal

pub returns-in-Ok : goal.returns-in-Ok
returns-in-Ok c = search (rules, judging-kept)

pub returns-in-Err : goal.returns-in-Err
returns-in-Err c = c.at_once.ensures ∙ judging_by _ _ _ _ _ _ (sym c.in-Err.ensures)
