-- `runs::run` meets its contract: where nothing stands against it, it is the course.
use native.Mathlib.Omega.{arith}
use mathlib.Core.Path.{sym, ap, ◌∙◌}
use Rattle.refusals.specs.Outcomes.{told}
use Rattle.runs.proofs.RunningLaws.{runnable-follow, running_refused, running_ran}
use Rattle.runs.proofs.run.Goals as goal

pub follow-requires : goal.follow-requires
follow-requires c =
    let can = runnable-follow _ _ _ (sym c.runnable.ensures ∙ ap told c.in-Ok.is) in
    record { some_words = omega arith; words_few = omega arith; relays_few = can.0; start_kept = can.1 }

pub follow-requires-in-Ok-2 : goal.follow-requires-in-Ok-2
follow-requires-in-Ok-2 c =
    let can = runnable-follow _ _ _ (sym c.runnable.ensures ∙ ap told c.in-Ok-2.is) in
    record { some_words = omega arith; words_few = omega arith; relays_few = can.0; start_kept = can.1 }

pub returns-in-Err : goal.returns-in-Err
returns-in-Err c =
    running_refused _ _ _ c.refuse.result _ _ c.refuse.ensures (sym c.runnable.ensures ∙ ap told c.in-Err.is)

pub returns-in-Ok : goal.returns-in-Ok
returns-in-Ok c = running_ran _ _ _ _ c.follow.ensures (sym c.runnable.ensures ∙ ap told c.in-Ok.is)

pub returns-in-Ok-2 : goal.returns-in-Ok-2
returns-in-Ok-2 c = running_ran _ _ _ _ c.follow-in-Ok-2.ensures (sym c.runnable.ensures ∙ ap told c.in-Ok-2.is)
