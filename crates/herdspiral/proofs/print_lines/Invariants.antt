-- `herdspiral::print_lines` meets its contract and ends: each buffer leaves less to come, and the writer took those
-- before it.
use Rattle.session.specs.Filling.{NextLines}
use Rattle.session.proofs.ToCome.{left_of}
use Rattle.session_means.proofs.Printed.{SoPrinted}
use Rattle.herdspiral.proofs.print_lines.Given as goal

abbrev pub invariant-loop-used : goal.invariant-loop-used
invariant-loop-used g l =
    SoPrinted NextLines l.input l.initial.session l.session (g.W.Write.contents l.initial.out)
    (g.W.Write.contents l.out)

abbrev pub decreases-loop-used : goal.decreases-loop-used
decreases-loop-used g l = left_of l.session l.input
