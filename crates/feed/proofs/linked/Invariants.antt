-- `feed::linked` meets its contract. The invariant: the sets of the terminals below x are made, and the others are
-- empty.
use Prim.Native.Nat.{ℕ}
use Rattle.lists.proofs.TableLaws.{FilledTo}
use Rattle.board.specs.Rules.{most_terminals}
use Rattle.feed.specs.Feeds.{linked_to}
use Rattle.feed.proofs.linked.Given as goal

abbrev pub invariant-loop-x : goal.invariant-loop-x
invariant-loop-x l =
    FilledTo (λ (s : ℕ). s) (linked_to l.bare l.terminals) 0 most_terminals l.x l.linked
