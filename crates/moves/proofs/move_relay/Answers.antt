-- `moves::move_relay` meets its contract: where nothing stands against it, the relay's step is made.
use mathlib.Core.Path.{sym, ap, ◌∙◌}
use Rattle.refusals.specs.Outcomes.{told}
use Rattle.moves.proofs.MovingLaws.{moving_refused, moving_moved}
use Rattle.moves.proofs.move_relay.Goals as goal

pub returns-in-Ok : goal.returns-in-Ok
returns-in-Ok c =
    moving_moved _ _ _ _ _ (sym c.movable.ensures ∙ ap told c.in-Ok.is) c.step_by-motion.ensures c.after.ensures

pub returns-in-Err : goal.returns-in-Err
returns-in-Err c = moving_refused _ _ _ _ _ (sym c.movable.ensures ∙ ap told c.in-Err.is)
