-- `presses::pressable` meets its contract: its lines are those of the definition, in that order.
use mathlib.Core.Path.{sym, ap, ◌∙◌}
use lib.Dec.{ltb}
use Rattle.refusals.specs.Outcomes.{told, unless}
use Rattle.refusals.proofs.LineLaws.{ends_with, line_holds, line_refuses}
use Rattle.presses.proofs.PressLaws.{press_unusable, press_lacking, press_twelve}
use Rattle.presses.proofs.pressable.Goals as goal

pub returns-in_err-usable : goal.returns-in_err-usable
returns-in_err-usable c =
    ap told (ends_with _ _ c.from_residual.ensures)
    ∙ sym (press_unusable _ _ _ _ (sym c.usable.ensures ∙ ap told c.in_err-usable.was))

pub returns-in_err-unless : goal.returns-in_err-unless
returns-in_err-unless c =
    let stop = line_refuses _ _ _ _ (sym c.in_err-unless.was ∙ c.unless.ensures)
    c.from_residual-in_err-unless.ensures in
    stop.1 ∙ sym (press_lacking _ _ _ _ (sym c.usable.ensures ∙ ap told c.in_ok-usable.was)
    (sym (ap (ltb _) c.from.ensures) ∙ stop.0))

pub returns-in_err-unless-2 : goal.returns-in_err-unless-2
returns-in_err-unless-2 c =
    let stop = line_refuses _ _ _ _ (sym c.in_err-unless-2.was ∙ c.unless-2.ensures)
    c.from_residual-in_err-unless-2.ensures in
    let there = sym (ap (ltb _) c.from.ensures) ∙ line_holds _ _ _ (sym c.in_ok-unless.was ∙ c.unless.ensures) in
    stop.1 ∙ sym (press_twelve _ _ _ _ (sym c.usable.ensures ∙ ap told c.in_ok-usable.was) there
    ∙ ap (λ t. unless t _ 0) stop.0)

pub returns : goal.returns
returns c =
    let there = sym (ap (ltb _) c.from.ensures) ∙ line_holds _ _ _ (sym c.in_ok-unless.was ∙ c.unless.ensures) in
    let settable = line_holds _ _ _ (sym c.in_ok-unless-2.was ∙ c.unless-2.ensures) in
    sym (press_twelve _ _ _ _ (sym c.usable.ensures ∙ ap told c.in_ok-usable.was) there
    ∙ ap (λ t. unless t _ 0) settable)
