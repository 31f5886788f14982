-- Laws of tests: both of two in a row hold exactly if their conjunction does, one of two exactly if their disjunction
-- does, and a test goes one way or the other; so does the test of one number below another.
use Prim.Native.Nat.{ℕ, ◌<◌, ◌≤◌}
use mathlib.Core.Path.{◌≡◌, refl, sym}
use mathlib.Core.Logic.{◌⊎◌, inl, inr}
use mathlib.Core.Bool.{Bool, true, false, ◌&&◌, ◌||◌, false≢true}
use borrow.Author.Tests.{ltb-true, ltb-false}
use lib.Dec.{ltb}

pub both_true : (a b : Bool) → (a && b) ≡ true → (a ≡ true) × (b ≡ true)
both_true true b h = (refl, h)
both_true false true h = (h, refl)
both_true false false h = (h, h)

pub true_both : {a b : Bool} → a ≡ true → b ≡ true → (a && b) ≡ true
true_both p q = rw (p, q)

pub either_true : (a b : Bool) → (a || b) ≡ true → (a ≡ true) ⊎ (b ≡ true)
either_true true b h = inl refl
either_true false b h = inr h

pub true_either : (a b : Bool) → (a ≡ true) ⊎ (b ≡ true) → (a || b) ≡ true
true_either true b h = refl
true_either false b (inl h) = absurd (false≢true h)
true_either false b (inr h) = h

pub by_test : {A : Type 0} (t : Bool) → (t ≡ true → A) → (t ≡ false → A) → A
by_test true on off = on refl
by_test false on off = off refl

pub by_less : {A : Type 0} (m n : ℕ) → (m < n → A) → (n ≤ m → A) → A
by_less m n less more = by_test (ltb m n) (λ e. less (ltb-true m n e)) (λ e. more (ltb-false m n e))

-- two tests of which each holds where the other does are one
pub both_ways : (p q : Bool) → (p ≡ true → q ≡ true) → (q ≡ true → p ≡ true) → p ≡ q
both_ways true q there back = sym (there refl)
both_ways false true there back = back refl
both_ways false false there back = refl
