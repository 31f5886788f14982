-- `moves::movable` meets its contract: its lines are those of the definition, in that order.
use mathlib.Core.Path.{sym, ap, ◌∙◌}
use lib.Dec.{ltb}
use Rattle.refusals.specs.Outcomes.{told}
use Rattle.refusals.proofs.LineLaws.{ends_with, line_holds, line_refuses}
use Rattle.moves.proofs.MovingLaws.{movable_unusable, movable_past, movable_there}
use Rattle.moves.proofs.movable.Goals as goal

pub returns-in_err-usable : goal.returns-in_err-usable
returns-in_err-usable c =
    ap told (ends_with _ _ c.from_residual.ensures)
    ∙ sym (movable_unusable _ _ _ (sym c.usable.ensures ∙ ap told c.in_err-usable.was))

pub returns-in_err-unless : goal.returns-in_err-unless
returns-in_err-unless c =
    let stop = line_refuses _ _ _ _ (sym c.in_err-unless.was ∙ c.unless.ensures)
    c.from_residual-in_err-unless.ensures in
    stop.1 ∙ sym (movable_past _ _ _ (sym c.usable.ensures ∙ ap told c.in_ok-usable.was)
    (sym (ap (ltb _) c.from.ensures) ∙ stop.0))

pub returns : goal.returns
returns c =
    sym (movable_there _ _ _ (sym c.usable.ensures ∙ ap told c.in_ok-usable.was)
    (sym (ap (ltb _) c.from.ensures) ∙ line_holds _ _ _ (sym c.in_ok-unless.was ∙ c.unless.ensures)))
