-- `session::next_lines` meets its contract: what was handed out so far are the first of the lines that fit.
use Rattle.std.proofs.Common.{◌-◌, length}
use Rattle.session.specs.Carried.{told_ahead}
use Rattle.session.proofs.FillLaws.{FilledTo}
use Rattle.session.proofs.next_lines.Given as goal

abbrev pub invariant-loop-line : goal.invariant-loop-line
invariant-loop-line l =
    FilledTo l.fn.session.board (told_ahead l.fn.session.ahead) l.s l.initial.out (told_ahead l.ahead) l.out l.used

abbrev pub decreases-loop-line : goal.decreases-loop-line
decreases-loop-line l = length l.initial.out - l.used
