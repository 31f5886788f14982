-- `presses::push` meets its contract: `set` is given the test and the state after the push.
use mathlib.Core.Path.{refl, ap, ◌∙◌}
use mathlib.Core.Bool.{not}
use Rattle.state.proofs.StateLaws.{pushed_push_other, drawn_push}
use Rattle.presses.specs.Presses.{pushing}
use Rattle.presses.proofs.PressLaws.{left_asked}
use Rattle.presses.proofs.push.Goals as goal

pub returns : goal.returns
unfolding pushing
returns c =
    c.set.ensures
    ∙ left_asked _ _ _ _ _ c.push.ensures (pushed_push_other c.args.kept.state _)
    (drawn_push c.args.kept.state c.args.button) _ _ _ _ refl refl
    (ap not c.is_pushed-settable.ensures)
