-- The theorem of specs/Fourteen.antt: the test behind 14 stands for its sentence, both ways.
use mathlib.Core.Path.{sym, ◌∙◌}
use Rattle.state.specs.Fourteen.{FourteenExactly}
use Rattle.state.proofs.StateLaws.{state_fits_members, members-state_fits}

pub fourteen_exactly : FourteenExactly
fourteen_exactly s c fine is =
    (λ on. state_fits_members c s (sym is ∙ on), λ below. is ∙ members-state_fits c s below)
