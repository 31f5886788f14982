-- `kept::usable` meets its contract: its lines are those of the definition, in that order.
use mathlib.Core.Path.{sym, ◌∙◌}
use Rattle.refusals.proofs.LineLaws.{line_holds, line_refuses}
use Rattle.kept.proofs.KeptLaws.{usable_broken, usable_beyond, usable_foreign, can-usable}
use Rattle.kept.proofs.usable.Goals as goal

pub returns-in_err-unless : goal.returns-in_err-unless
returns-in_err-unless c =
    let refuses = line_refuses _ _ _ _ c.in_err-unless.ensures c.from_residual.ensures in
    refuses.1 ∙ usable_broken c.args.board c.args.kept (sym c.check.ensures ∙ refuses.0)

pub returns-in_err-unless-2 : goal.returns-in_err-unless-2
returns-in_err-unless-2 c =
    let refuses = line_refuses _ _ _ _ c.in_err-unless-2.ensures c.from_residual-in_err-unless-2.ensures in
    refuses.1
    ∙ usable_beyond c.args.board c.args.kept (sym c.check.ensures ∙ line_holds _ _ _ c.in_ok-unless.ensures)
    (sym c.fits.ensures ∙ refuses.0)

pub returns-in_err-unless-3 : goal.returns-in_err-unless-3
returns-in_err-unless-3 c =
    let refuses = line_refuses _ _ _ _ c.in_err-unless-3.ensures c.from_residual-in_err-unless-3.ensures in
    refuses.1
    ∙ usable_foreign c.args.board c.args.kept (sym c.check.ensures ∙ line_holds _ _ _ c.in_ok-unless.ensures)
    (sym c.fits.ensures ∙ line_holds _ _ _ c.in_ok-unless-2.ensures) (sym c.belong.ensures ∙ refuses.0)

pub returns : goal.returns
returns c =
    sym (can-usable c.args.board c.args.kept (
      sym c.check.ensures ∙ line_holds _ _ _ c.in_ok-unless.ensures,
      sym c.fits.ensures ∙ line_holds _ _ _ c.in_ok-unless-2.ensures,
      sym c.belong.ensures ∙ line_holds _ _ _ c.in_ok-unless-3.ensures,
    ))
