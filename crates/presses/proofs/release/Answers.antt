-- `presses::release` meets its contract: `set` is given the test and the state after the
-- release.
use mathlib.Core.Path.{refl, ◌∙◌}
use Rattle.state.proofs.StateLaws.{pushed_release_other, drawn_release}
use Rattle.presses.specs.Presses.{releasing}
use Rattle.presses.proofs.PressLaws.{left_asked}
use Rattle.presses.proofs.release.Goals as goal

pub returns : goal.returns
unfolding releasing
returns c =
    c.set.ensures
    ∙ left_asked _ _ _ _ _ c.release.ensures (pushed_release_other c.args.kept.state _)
    (drawn_release c.args.kept.state c.args.button) _ _ _ _ refl refl
    c.is_pushed-settable.ensures
