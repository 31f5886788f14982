-- Laws of one event.
use Prim.Native.Nat.{ℕ, ◌/◌, ◌%◌}
use mathlib.Core.Path.{◌≡◌, refl}
use mathlib.Core.Bool.{Bool, true, false, cond}
use lib.Dec.{eqb}
use Rattle.events.specs.declared.Event.TheVariants.{Push, Release}
use Rattle.events.specs.Events.{event_of, named_button}

-- the button that the event of a number names
pub named_button-event : (v : ℕ) → named_button (event_of v) ≡ v / 2
named_button-event v = by (eqb (v % 2) 1)
  where
    by : (t : Bool) → named_button (cond t (Push (v / 2)) (Release (v / 2))) ≡ v / 2
    by true = refl
    by false = refl
