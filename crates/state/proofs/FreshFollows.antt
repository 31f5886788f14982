-- The theorem of specs/FreshFollows.antt.
use mathlib.Core.Path.{sym, subst}
use Rattle.bits.proofs.SetLaws.{member_none}
use Rattle.board.proofs.FineLaws.{fine-starts_marked}
use Rattle.state.specs.FreshFollows.{IsFresh, FreshFollows}
use Rattle.state.proofs.StateLaws.{fresh_fits}

pub fresh_follows : FreshFollows
fresh_follows b s fine is =
    subst (IsFresh b) (sym is)
    (record { drawn = fine-starts_marked b fine; pushed = member_none; fits = fresh_fits b fine })
