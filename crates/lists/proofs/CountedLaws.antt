-- Laws of how many members of a list pass a test: a member that passes counts, and where at most one counts it is the
-- only one. A board's windings are counted by them.
--     worth t        a test as a number
--     counted t l    how many members of l pass the test t
use Prim.Native.Nat.{ℕ, ◌+◌, ◌≤◌}
use native.Mathlib.Omega.{arith}
use mathlib.Core.Path.{◌≡◌, sym, ap, ◌∙◌}
use mathlib.Core.Logic.{inl, inr}
use mathlib.Core.Bool.{Bool, true, cond}
use mathlib.Core.List.{List, [], ◌∷◌}
use Rattle.lists.specs.Members.{◌∈◌}

abbrev pub worth : Bool → ℕ
worth t = cond t 1 0

abbrev pub counted : {A : Type 0} → (A → Bool) → List A → ℕ
counted t [] = 0
counted t (x ∷ l) = worth (t x) + counted t l

-- a member that passes counts
pub member_counted : {A : Type 0} (t : A → Bool) (l : List A) (x : A) → x ∈ l → t x ≡ true → 1 ≤ counted t l
member_counted t [] x among on = absurd among
member_counted t (y ∷ l) x (inl same) on = omega (arith, ap worth (sym (ap t same) ∙ on))
member_counted t (y ∷ l) x (inr among) on = omega (arith, member_counted t l x among on)

-- where at most one passes, two that pass are one
pub counted_only : {A : Type 0} (t : A → Bool) (l : List A) → counted t l ≤ 1 → (x y : A) → x ∈ l → y ∈ l
    → t x ≡ true → t y ≡ true → x ≡ y
counted_only t [] most x y among also on too = absurd among
counted_only t (z ∷ l) most x y (inl same) (inl alike) on too = same ∙ sym alike
counted_only t (z ∷ l) most x y (inl same) (inr also) on too =
    absurd (omega (arith, ap worth (sym (ap t same) ∙ on), member_counted t l y also too))
counted_only t (z ∷ l) most x y (inr among) (inl alike) on too =
    absurd (omega (arith, ap worth (sym (ap t alike) ∙ too), member_counted t l x among on))
counted_only t (z ∷ l) most x y (inr among) (inr also) on too = counted_only t l (omega arith) x y among also on too
