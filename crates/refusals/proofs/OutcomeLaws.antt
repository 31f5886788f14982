-- Laws of outcomes one after the other: where a row of them gives something, each of them did. They take a `do` block
-- of the definitions apart.
use Prim.Native.Nat.{ℕ}
use native.Mathlib.Omega.{arith}
use mathlib.Core.Path.{◌≡◌, refl}
use mathlib.Core.Bool.{Bool, true, false}
use Rattle.refusals.specs.Outcomes.{Outcome, given, refused, ◌>>=◌, ◌>>◌, unless}

pub refused_never : {A : Type 0} (k p : ℕ) (a : A) → refused k p ≡ given a → ⊥
refused_never k p a h = let z : ◌≡◌ {A = ℕ} 0 1 = cc in omega arith

pub given_injective : {A : Type 0} (a b : A) → given a ≡ given b → a ≡ b
given_injective a b h = cc

-- what was handed on, that it was given, and what came of it
pub record HandedOn {A B : Type 0} (o : Outcome A) (f : A → Outcome B) (b : B) : Type 0 where
  pub value : A
  pub first : o ≡ given value
  pub then : f value ≡ given b

pub handed : {A B : Type 0} (o : Outcome A) (f : A → Outcome B) (b : B) → (o >>= f) ≡ given b → HandedOn o f b
handed (given a) f b h = record { value = a; first = refl; then = h }
handed (refused k p) f b h = absurd (refused_never k p b h)

pub passed : {B : Type 0} (t : Bool) (n p : ℕ) (o : Outcome B) (b : B) → (unless t n p >> o) ≡ given b → (t ≡ true)
    × (o ≡ given b)
passed true n p o b h = (refl, h)
passed false n p o b h = absurd (refused_never n p b h)

pub both_given : {B : Type 0} (o : Outcome (Unit {0})) (q : Outcome B) (b : B) → (o >> q) ≡ given b → (o ≡ given tt)
    × (q ≡ given b)
both_given (given u) q b h = (refl, h)
both_given (refused n p) q b h = absurd (refused_never n p b h)

-- the last test of a row
pub asked : (t : Bool) (n p : ℕ) → unless t n p ≡ given tt → t ≡ true
asked true n p h = refl
asked false n p h = absurd (refused_never n p tt h)
