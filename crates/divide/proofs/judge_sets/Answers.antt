-- `divide::judge_sets` meets its contract: shunted first, else live, else dead with the lowest terminal that divides.
use borrow.Author.Rules.{rules}
use Rattle.divide.proofs.AtOnceLaws.{told-shunted, found_dead, found_none}
use Rattle.divide.proofs.judge_sets.Goals as goal

pub returns-then-is_shunted : goal.returns-then-is_shunted
returns-then-is_shunted c = search (rules, told-shunted)

pub returns-in-Some : goal.returns-in-Some
returns-in-Some c = search (rules, found_dead)

pub returns-in-None : goal.returns-in-None
returns-in-None c = search (rules, found_none)
