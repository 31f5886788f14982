-- `feed::linked` meets its contract. The invariant: the sets of the terminals below x are made, and the others are
-- empty.
use borrow.Author.Rules.{rules}
use native.Mathlib.Omega.{arith}
use Prim.Native.Nat.{ℕ}
use Rattle.lists.proofs.TableLaws.{filled_starts, filled_next}
use Rattle.board.specs.Rules.{most_terminals}
use Rattle.feed.proofs.FeedLaws.{linked_here, lower_known, linked-ends}
use Rattle.feed.proofs.linked.Goals as goal

pub loop-x-init : goal.loop-x-init
loop-x-init c = filled_starts (λ (s : ℕ). s) _ 0 most_terminals

pub linked_to-requires-clause-lower_known : goal.linked_to-requires-clause-lower_known
linked_to-requires-clause-lower_known c =
    lower_known _ _ _ _ _ c.loop-x.invariant (omega arith) (omega arith) c.from.ensures

pub loop-x-preserved : goal.loop-x-preserved
loop-x-preserved c = search (rules, filled_next, linked_here)

pub returns : goal.returns
returns c = linked-ends _ _ _ _ _ c.loop-x.invariant c.min-x-end.ensures c.loop-x-test.false
