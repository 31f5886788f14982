-- `herdspiral::page::number_of` is safe: the number stays small enough for one digit more.
use Rattle.std.proofs.Common.{◌≤◌}
use Rattle.herdspiral.proofs.page.number_of.Given as goal

abbrev pub invariant-loop-character : goal.invariant-loop-character
invariant-loop-character l = l.number ≤ 655369
