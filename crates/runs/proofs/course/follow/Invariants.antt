-- `runs::course::follow` meets its contract: of the run's loop, that what was logged goes on as the run from here, and
-- that the sets belong to the state; of the scan, that nothing has changed and the look from 0 is the look from this
-- relay.
use Prim.Native.Nat.{◌-◌}
use lib.ListN.{length}
use Rattle.kept.specs.Kept.{kept_at}
use Rattle.moves.specs.Steps.{step_of}
use Rattle.runs.specs.Runs.{run_of}
use Rattle.runs.specs.Running.{ran}
use Rattle.runs.proofs.SeenLaws.{seeing}
use Rattle.runs.proofs.CourseLaws.{Course, ScanSoFar}
use Rattle.runs.proofs.course.follow.Given as goal

abbrev pub invariant-loop-relay : goal.invariant-loop-relay
invariant-loop-relay g l =
    ScanSoFar (step_of l.board) (seeing l.feed l.windings) l.relays l.initial.log l.initial.moves l.initial.kept l.log
    l.moves l.kept l.relay

abbrev pub invariant-run : goal.invariant-run
invariant-run g l =
    Course (step_of l.board) (kept_at l.board) l.relays
    (ran (kept_at l.board) (run_of (step_of l.board) l.relays (length l.initial.log) l.initial.kept.state)
    l.initial.log) (length l.initial.log) g.row.WORDS
    l.log l.notches.words l.moves l.kept

abbrev pub decreases-run : goal.decreases-run
decreases-run g l =
    length l.initial.log - l.moves
