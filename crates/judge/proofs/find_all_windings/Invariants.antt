-- `judge::find_all_windings` meets its contract. The invariant: the windings of the relays below this one are found,
-- and the others absent.
use Rattle.std.specs.Prelude.{None}
use Rattle.lists.proofs.TableLaws.{FilledTo}
use Rattle.board.specs.Rules.{most_relays}
use Rattle.judge.specs.RelayWindings.{windings_if, told_windings}
use Rattle.judge.proofs.find_all_windings.Given as goal

abbrev pub invariant-loop-relay : goal.invariant-loop-relay
invariant-loop-relay l =
    FilledTo told_windings (windings_if l.board) None most_relays l.relay l.all
