-- `session::fill::hand_line` meets its contract: 16 leaves at once; else what comes next is written, or nothing does.
use Rattle.std.proofs.Common.{refl, leb-true}
use Rattle.refusals.proofs.LineLaws.{line_holds}
use Rattle.session.proofs.NextLineLaws.{line_handed_unless, line_handed_over, line_handed_written, line_never_refused}
use Rattle.session.proofs.fill.hand_line.Goals as goal

pub returns-in_err-unless : goal.returns-in_err-unless
returns-in_err-unless c = line_handed_unless _ _ _ _ _ _ c.in_err-unless.ensures c.from_residual.ensures

pub returns-in_default : goal.returns-in_default
returns-in_default c =
    line_handed_over _ _ _ _ c.advance.result (leb-true _ _ (line_holds _ _ _ c.in_ok-unless.ensures)) c.advance.ensures
    c.in_default.is

pub returns-in_err-length : goal.returns-in_err-length
returns-in_err-length c =
    absurd (line_never_refused _ _ _ _ c.advance.result (leb-true _ _ (line_holds _ _ _ c.in_ok-unless.ensures))
    c.advance.ensures _ c.in-Some.is _ _ c.in_err-length.ensures _ _ refl)

pub returns : goal.returns
returns c =
    line_handed_written _ _ _ _ c.advance.result (leb-true _ _ (line_holds _ _ _ c.in_ok-unless.ensures))
    c.advance.ensures _ c.in-Some.is _ _ c.in_ok-length.ensures _ refl
