-- `judge::find_all_windings` meets its contract. The invariant: the windings of the relays below this one are found,
-- and the others absent.
use borrow.Author.Rules.{rules}
use Rattle.std.specs.Prelude.{None}
use Rattle.lists.proofs.TableLaws.{filled_starts, filled_next}
use Rattle.board.specs.Rules.{most_relays}
use Rattle.judge.specs.RelayWindings.{told_windings}
use Rattle.judge.proofs.AllLaws.{windings_there, windings_filled}
use Rattle.judge.proofs.find_all_windings.Goals as goal

pub loop-relay-init : goal.loop-relay-init
loop-relay-init c = filled_starts told_windings _ None most_relays

pub loop-relay-preserved : goal.loop-relay-preserved
loop-relay-preserved c = search (rules, filled_next, windings_there)

pub returns : goal.returns
returns c = windings_filled _ _ _ _ c.loop-relay.invariant c.min-relay-end.ensures c.loop-relay-test.false
