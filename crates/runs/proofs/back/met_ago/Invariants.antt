-- `runs::back::met_ago` meets its contract: the loop looks back move by move.
use Rattle.runs.proofs.BackLaws.{Looking}
use Rattle.runs.proofs.back.met_ago.Given as goal

abbrev pub invariant-loop-i : goal.invariant-loop-i
invariant-loop-i l =
    Looking l.log l.moves l.drawn l.i l.was
