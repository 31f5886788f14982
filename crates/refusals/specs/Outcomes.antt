-- What any reading or call comes to, in the rule book's words: what was asked for, or a refusal by number and place.
--     Outcome         what it comes to:
--       given a       what was asked for is a
--       refused n p   refused by number n at place p
--     found a n       a was read, and the place just after it is n
--     o >>= f         where o gives a, what f makes of a; a refusal leaves at once. A `do` block is a row of these
--     o >> q          where o gives anything, q; a refusal leaves at once
--     unless t n p    go on where the test t holds, else refused by n at p
--     told r          what the code's answer r comes to; `told_as t r`, where the thing given is told by t
-- The lines of a `do` block stand in the rule book's order: "left to right, each number's form (1, 2) before its
-- meaning".
use Rattle.std.specs.Prelude.{ℕ, Bool, cond, Result}
use Rattle.refusals.specs.Refusals.{number_of}
use Rattle.refusals.specs.declared.Found.{Found}
use Rattle.refusals.specs.declared.Refusal.{Refusal}

pub data Outcome (A : Type 0) : Type 0 where
  given : A → Outcome A
  refused : ℕ → ℕ → Outcome A

abbrev pub found : {A : Type 0} → A → ℕ → Outcome (Found A)
found a n = given (record { value = a; next = n })

infixl 20 ◌>>=◌
infixl 20 ◌>>◌
abbrev pub ◌>>=◌ : {A B : Type 0} → Outcome A → (A → Outcome B) → Outcome B
given a >>= f = f a
refused n p >>= f = refused n p

abbrev pub ◌>>◌ : {A B : Type 0} → Outcome A → Outcome B → Outcome B
given a >> o = o
refused n p >> o = refused n p

abbrev pub unless : Bool → ℕ → ℕ → Outcome (Unit {0})
unless t n p = cond t (given tt) (refused n p)

abbrev pub told : {A : Type 0} → Result A Refusal → Outcome A
told (Result.Ok a) = given a
told (Result.Err r) = refused (number_of r.no) r.place

abbrev pub told_as : {A B : Type 0} → (A → B) → Result A Refusal → Outcome B
told_as t (Result.Ok a) = given (t a)
told_as t (Result.Err r) = refused (number_of r.no) r.place
