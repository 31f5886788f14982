-- `report::can_report` meets its contract: its lines are those of the definition, in that order.
use mathlib.Core.Path.{sym, ◌∙◌}
use Rattle.refusals.proofs.LineLaws.{line_holds, line_refuses}
use Rattle.report.proofs.ReportLaws.{reportable_broken, reportable_long, reportable_many, reportable_all}
use Rattle.report.proofs.can_report.Goals as goal

pub returns-in_err-unless : goal.returns-in_err-unless
returns-in_err-unless c =
    let stop = line_refuses _ _ _ _ (sym c.in_err-unless.was ∙ c.unless.ensures) c.from_residual.ensures in
    stop.1 ∙ sym (reportable_broken _ _ (sym c.check-sound.ensures ∙ stop.0))

pub returns-in_err-unless-2 : goal.returns-in_err-unless-2
returns-in_err-unless-2 c =
    let stop = line_refuses _ _ _ _ (sym c.in_err-unless-2.was ∙ c.unless-2.ensures)
    c.from_residual-in_err-unless-2.ensures in
    let sound = sym c.check-sound.ensures ∙ line_holds _ _ _ (sym c.in_ok-unless.was ∙ c.unless.ensures) in
    stop.1 ∙ sym (reportable_long _ _ sound stop.0)

pub returns-in_err-unless-3 : goal.returns-in_err-unless-3
returns-in_err-unless-3 c =
    let stop = line_refuses _ _ _ _ (sym c.in_err-unless-3.was ∙ c.unless-3.ensures)
    c.from_residual-in_err-unless-3.ensures in
    let sound = sym c.check-sound.ensures ∙ line_holds _ _ _ (sym c.in_ok-unless.was ∙ c.unless.ensures) in
    let short = line_holds _ _ _ (sym c.in_ok-unless-2.was ∙ c.unless-2.ensures) in
    stop.1 ∙ sym (reportable_many _ _ sound short stop.0)

pub returns : goal.returns
returns c =
    let sound = sym c.check-sound.ensures ∙ line_holds _ _ _ (sym c.in_ok-unless.was ∙ c.unless.ensures) in
    let short = line_holds _ _ _ (sym c.in_ok-unless-2.was ∙ c.unless-2.ensures) in
    sym (reportable_all _ _ sound short (line_holds _ _ _ (sym c.in_ok-unless-3.was ∙ c.unless-3.ensures)))
