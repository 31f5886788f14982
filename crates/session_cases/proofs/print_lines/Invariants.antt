-- `session_cases::print_lines` meets its contract and ends: a line that is handed out leaves less to come, and the
-- writer took those before it.
use Rattle.session.specs.HandingOut.{NextLine}
use Rattle.session.proofs.ToCome.{left_of}
use Rattle.session_means.proofs.Printed.{SoPrinted}
use Rattle.session_cases.proofs.print_lines.Given as goal

abbrev pub invariant-loop-length : goal.invariant-loop-length
invariant-loop-length g l =
    SoPrinted NextLine l.input l.initial.session l.session (g.W.Write.contents l.initial.out) (g.W.Write.contents l.out)

abbrev pub decreases-loop-length : goal.decreases-loop-length
decreases-loop-length g l = left_of l.session l.input
