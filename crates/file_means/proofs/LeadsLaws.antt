-- What holds of whatever an outcome comes to, refused or given: it is handed on through a row of outcomes, of which a
-- later one is come to only where those before it gave. So a `do` block of the definitions is followed line by line.
--     Leads P Q o    where o is refused by n at p, P holds of n and p; where it gives a, Q holds of a
use Prim.Native.Nat.{ℕ}
use mathlib.Core.Path.{◌≡◌, refl}
use mathlib.Core.Bool.{Bool, true, false}
use Rattle.refusals.specs.Outcomes.{Outcome, given, refused, ◌>>=◌, ◌>>◌, unless}

abbrev pub Leads : {A : Type 0} → (ℕ → ℕ → Type 0) → (A → Type 0) → Outcome A → Type 0
Leads P Q (given a) = Q a
Leads P Q (refused n p) = P n p

module _ (P : ℕ → ℕ → Type 0) where
  pub leads_refused : {A : Type 0} (Q : A → Type 0) (o : Outcome A) (n p : ℕ) → Leads P Q o → o ≡ refused n p → P n p
  leads_refused Q o n p here e = rw e at here

  pub leads_given : {A : Type 0} (Q : A → Type 0) (o : Outcome A) (a : A) → Leads P Q o → o ≡ given a → Q a
  leads_given Q o a here e = rw e at here

  pub leads_each : {A : Type 0} (Q : A → Type 0) (o : Outcome A) → ((n p : ℕ) → o ≡ refused n p → P n p)
      → ((a : A) → o ≡ given a → Q a) → Leads P Q o
  leads_each Q (given a) by so = so a refl
  leads_each Q (refused n p) by so = by n p refl

  pub leads_then : {A B : Type 0} (R : A → Type 0) (Q : B → Type 0) (o : Outcome A) (f : A → Outcome B) → Leads P R o
      → ((a : A) → o ≡ given a → R a → Leads P Q (f a)) → Leads P Q (o >>= f)
  leads_then R Q (given a) f here later = later a refl here
  leads_then R Q (refused n p) f here later = here

  pub leads-unless : {B : Type 0} (Q : B → Type 0) (t : Bool) (n p : ℕ) (o : Outcome B) → (t ≡ false → P n p)
      → (t ≡ true → Leads P Q o) → Leads P Q (unless t n p >> o)
  leads-unless Q true n p o here later = later refl
  leads-unless Q false n p o here later = here refl
