-- `runs::course::follow` meets its contract: of the run's loop, that what was logged goes on as the run from here, and
-- that the sets belong to the state; of the scan, that nothing has changed and the look from 0 is the look from this
-- relay.
use borrow.Author.Rules.{rules}
use native.Mathlib.Omega.{arith}
use mathlib.Core.Path.{refl, sym, ap, ◌∙◌}
use lib.ListN.{length-replicate}
use Rattle.moves.specs.Steps.{told_move}
use Rattle.moves.proofs.StepLaws.{step_turns, kept_made_lem}
use Rattle.runs.proofs.SeenLaws.{step_seen, told-moving}
use Rattle.runs.proofs.CourseLaws.{course_starts, scan_starts, scan_rests}
use Rattle.runs.proofs.CourseLaws.{course_buzz, course_idle, course_conflict, course_spent, course-moves}
use Rattle.runs.proofs.BackLaws.{met_within}
use Rattle.runs.proofs.NotchLaws.{covered-spares}
use Rattle.runs.proofs.course.follow.Goals as goal

pub run-init : goal.run-init
run-init g c = course_starts _ _ _ _ _ _ _ c.requires.start_kept (length-replicate g.row.WORDS 0)

pub look_back-requires : goal.look_back-requires
look_back-requires g c = search (rules, covered-spares)

pub overflow_sub-word : goal.overflow_sub-word
overflow_sub-word g c = search (rules, met_within)

pub loop-relay-init : goal.loop-relay-init
loop-relay-init g c = search (rules, step_seen, scan_starts)

pub loop-relay-preserved : goal.loop-relay-preserved
loop-relay-preserved g c =
    scan_rests c.loop-relay.invariant c.loop-relay-test.true c.from.ensures c.from-in-loop-relay.ensures
    c.is_drawn-drawn.ensures c.step-motion.ensures (ap told_move c.in-Rests.is)

pub run-preserved : goal.run-preserved
run-preserved g c =
    course-moves c.loop-relay.invariant c.run.invariant c.loop-relay-test.true c.from.ensures
    c.from-in-loop-relay.ensures
    c.is_drawn-drawn.ensures c.step-motion.ensures (λ s. refl)
    (omega (arith, c.loop-relay-test.true, c.requires.relays_few)) (λ s. step_turns _ s _)
    c.from-in-Drew.ensures
    (λ own. c.after-kept.ensures
    ∙ kept_made_lem _ c.loop-relay.kept c.from-in-Drew.result (told_move c.step-motion.result) own)
    (told-moving c.step-motion.result c.in-Drew.is)
    c.if-log-moves.false c.byte.ensures c.requires.some_words
    c.look_back.ensures.notched

pub returns-in-Some : goal.returns-in-Some
returns-in-Some g c = course_buzz c.run.invariant (sym c.in-Some.is ∙ c.look_back.ensures.looked_back)

pub returns-after-loop-relay : goal.returns-after-loop-relay
returns-after-loop-relay g c = course_idle c.loop-relay.invariant c.run.invariant c.loop-relay-test.false

pub returns-in-Conflict : goal.returns-in-Conflict
returns-in-Conflict g c =
    course_conflict c.loop-relay.invariant c.run.invariant c.loop-relay-test.true c.from.ensures
    c.from-in-loop-relay.ensures
    c.is_drawn-drawn.ensures c.step-motion.ensures
    (ap told_move c.in-Conflict.is)

pub returns-then-log-moves : goal.returns-then-log-moves
returns-then-log-moves g c =
    course_spent c.loop-relay.invariant c.run.invariant c.loop-relay-test.true c.from.ensures
    c.from-in-loop-relay.ensures
    c.is_drawn-drawn.ensures c.step-motion.ensures (told-moving c.step-motion.result c.in-Drew.is) c.if-log-moves.true
