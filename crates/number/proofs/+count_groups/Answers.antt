-- The proof of the cycle of calls {count_groups}. The measure is `left`, the groups that may be left.
use Rattle.number.proofs.FormLaws.{encode_few}
use Rattle.number.proofs.FormSteps.{count_none, count_last, count_more}
use Rattle.std.proofs.Common.{rules}
use Rattle.number.proofs.+count_groups.Goals as goal

pub returns-then-left-eq0 : goal.returns-then-left-eq0
returns-then-left-eq0 t c = count_none _ _ c.if-left-eq0.true

pub returns-then-more-eq0 : goal.returns-then-more-eq0
returns-then-more-eq0 t c = count_last _ _ c.if-left-eq0.false c.if-more-eq0.true

pub overflow_add-result : goal.overflow_add-result
overflow_add-result t c = search (rules, encode_few)

pub returns : goal.returns
returns t c = search (rules, count_more)
