-- Laws of a look at k relays, from relay r up: one law for each way on from a relay.
use Prim.Native.Nat.{ℕ, suc, ◌+◌, ◌-◌, ◌<◌, ◌≤◌}
use native.Mathlib.Omega.{arith}
use mathlib.Core.Path.{◌≡◌, refl}
use Rattle.state.specs.declared.State.{State}
use Rattle.moves.specs.Steps as step
use Rattle.runs.specs.Looks.{Stepper, quiet, decides, look_from}

module _ (f : Stepper) (s : State) (k r : ℕ) where
  pub look_quiet : k ≤ r → look_from f s (k - r) r ≡ quiet
  unfolding look_from
  look_quiet past =
      let none : k - r ≡ 0 = omega arith in
      rw none refl

  pub look-decides : (m : step.Move) → r < k → m ≡ f s r → look_from f s (k - r) r ≡ decides m r
      (look_from f s (k - (r + 1)) (r + 1))
  unfolding look_from
  look-decides m below is =
      let more : k - r ≡ suc (k - (r + 1)) = omega arith in
      let next : r + 1 ≡ suc r = omega arith in
      rw (more, next, is) refl
