-- Laws of going around a terminal: what a terminal that is taken out leaves of the ways between the others.
--     Around R s x y       one comes from x to y, each terminal R to the next, and passes s nowhere
--     Via R s z p q x y    one comes from x to y around s; or around z, from x to p and from q to y
use Prim.Native.Nat.{ℕ}
use native.Mathlib.Decide.{ℕ_discrete}
use mathlib.Core.Path.{◌≡◌, subst}
use mathlib.Core.Logic.{◌⊎◌, inl, inr}

pub data Around (R : ℕ → ℕ → Type 0) (s : ℕ) : ℕ → ℕ → Type 0 where
  stays : {x : ℕ} → ¬ (x ≡ s) → Around R s x x
  goes : {x y z : ℕ} → ¬ (x ≡ s) → R x y → Around R s y z → Around R s x z

abbrev pub Via : (ℕ → ℕ → Type 0) → ℕ → ℕ → ℕ → ℕ → ℕ → ℕ → Type 0
Via R s z p q x y = Around R s x y ⊎ (Around R z x p × Around R z q y)

module _ {R : ℕ → ℕ → Type 0} {s : ℕ} where
  pub around_starts : {x y : ℕ} → Around R s x y → ¬ (x ≡ s)
  around_starts (stays out) = out
  around_starts (goes out r g) = out

  pub around_on : {x y z : ℕ} → Around R s x y → Around R s y z → Around R s x z
  around_on (stays out) h = h
  around_on (goes out r g) h = goes out r (around_on g h)

  pub around_turned : {x y : ℕ} → ((u v : ℕ) → R u v → R v u) → Around R s x y → Around R s y x
  around_turned back (stays out) = stays out
  around_turned back (goes {x} {y} out r g) =
      around_on (around_turned back g) (goes (around_starts g) (back x y r) (stays out))

pub around_wider : {R S : ℕ → ℕ → Type 0} {s x y : ℕ} → ((u v : ℕ) → R u v → S u v) → Around R s x y → Around S s x y
around_wider wider (stays out) = stays out
around_wider wider (goes {x} {y} out r g) = goes out (wider x y r) (around_wider wider g)

-- what goes around z goes around s too, or passes it
module _ {R : ℕ → ℕ → Type 0} {z : ℕ} (s : ℕ) where
  passing_stays : {x : ℕ} → ¬ (x ≡ z) → Dec (x ≡ s) → Via R s z s s x x
  passing_stays {x} out (yes e) =
      inr (subst (Around R z x) e (stays out), subst (λ (k : ℕ). Around R z k x) e (stays out))
  passing_stays out (no other) = inl (stays other)

  passing_on : {x v y : ℕ} → ¬ (x ≡ z) → R x v → Around R z v y → Dec (x ≡ s) → Via R s z s s v y → Via R s z s s x y
  passing_on {x} {y = y} out r g (yes e) so =
      inr (subst (Around R z x) e (stays out), subst (λ (k : ℕ). Around R z k y) e (goes out r g))
  passing_on out r g (no other) (inl clear) = inl (goes other r clear)
  passing_on out r g (no other) (inr (to, on)) = inr (goes out r to, on)

  pub around_passing : {x y : ℕ} → Around R z x y → Via R s z s s x y
  around_passing (stays {x} out) = passing_stays out (ℕ_discrete x s)
  around_passing (goes {x} out r g) = passing_on out r g (ℕ_discrete x s) (around_passing g)

-- where S is R and the arc from p to q besides, what goes along S goes along R, or comes along R to the arc's beginning
-- (where it first takes it) and from its end (where it last does)
module _ {R S : ℕ → ℕ → Type 0} {s : ℕ} (p q : ℕ)
    (either : (u v : ℕ) → S u v → R u v ⊎ ((u ≡ p) × (v ≡ q))) where
  taking_on : {x v y : ℕ} → ¬ (x ≡ s) → R x v ⊎ ((x ≡ p) × (v ≡ q)) → Via R s s p q v y → Via R s s p q x y
  taking_on out (inl r) (inl g) = inl (goes out r g)
  taking_on out (inl r) (inr (to, on)) = inr (goes out r to, on)
  taking_on {x} {y = y} out (inr (begins, ends)) (inl g) =
      inr (subst (Around R s x) begins (stays out), subst (λ (k : ℕ). Around R s k y) ends g)
  taking_on {x} out (inr (begins, ends)) (inr (to, on)) = inr (subst (Around R s x) begins (stays out), on)

  pub around_taking : {x y : ℕ} → Around S s x y → Via R s s p q x y
  around_taking (stays out) = inl (stays out)
  around_taking (goes {x} {y = v} out r g) = taking_on out (either x v r) (around_taking g)
