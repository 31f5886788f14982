-- Laws of a line that is asked by `unless(..)?`: where the call goes on, its test holds; where it ends there, its test
-- fails, and what `?` answers is the refusal by the line's number, at place 0.
use mathlib.Core.Path.{◌≡◌, refl, ap, ◌∙◌}
use mathlib.Core.Bool.{Bool, true, false}
use Rattle.std.specs.Prelude.{Result}
use Rattle.std.specs.Result.{IsErr, IsErrAnd}
use Rattle.refusals.specs.declared.No.{No}
use Rattle.refusals.specs.declared.Refusal.{Refusal}
use Rattle.refusals.specs.Outcomes.{Outcome, refused, told}
use Rattle.refusals.specs.Refusals.{number_of}
use Rattle.refusals.specs.Order.{AsksLine}

-- what `?` answers of an error f
pub ends_with : {A F : Type 0} (r : Result A F) (f : F) → IsErr r × IsErrAnd r (λ (x : F). x ≡ f) → r ≡ Result.Err f
ends_with (Result.Ok a) f h = absurd h.1
ends_with {A} {F} (Result.Err x) f h = ap {B = Result A F} (λ (y : F). Result.Err y) h.1

pub line_holds : {E : Type 0} (t : Bool) (e : E) (u : Unit {0}) → AsksLine t e (Result.Ok u) → t ≡ true
line_holds true e u h = refl
line_holds {E} false e u h = absurd cc

pub line_fails : {E : Type 0} (t : Bool) (e x : E) → AsksLine t e (Result.Err x) → (t ≡ false) × (x ≡ e)
line_fails true e x h = absurd cc
line_fails false e x h = (refl, cc)

-- the answer of a call that ends at a line of the number n
pub line_refuses : {A : Type 0} (t : Bool) (n x : No) (r : Result A Refusal) → AsksLine t n (Result.Err x)
    → IsErr r × IsErrAnd r (λ (y : Refusal). y ≡ record { no = x; place = 0 })
    → (t ≡ false) × (told r ≡ refused (number_of n) 0)
line_refuses {A} t n x r asked ended =
    let fails = line_fails t n x asked in (
      fails.0,
      ap told (ends_with r _ ended) ∙ ap {B = Outcome A} (λ (y : No). refused (number_of y) 0) fails.1,
    )
