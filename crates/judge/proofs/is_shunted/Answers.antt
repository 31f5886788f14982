-- `judge::is_shunted` meets its contract: the flood starts at one end, and is asked for the other.
use borrow.Author.Rules.{rules}
use Rattle.judge.proofs.JudgeLaws.{shunted_by_lem}
use Rattle.judge.proofs.is_shunted.Goals as goal

pub returns : goal.returns
returns c = search (rules, shunted_by_lem)
