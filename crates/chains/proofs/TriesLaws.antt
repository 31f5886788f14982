-- Laws of trying the numbers one after the other: what is made of each that is tried holds of all, and what one of them
-- makes is among all. For the theorems on the list of chains.
use Prim.Native.Nat.{ℕ, zero, suc, ◌+◌, ◌≤◌, ◌<◌}
use native.Mathlib.Omega.{arith}
use native.Mathlib.Nat.{eq-or-lt_of_le}
use mathlib.Core.Path.{◌≡◌, refl}
use mathlib.Core.Logic.{◌⊎◌, inl, inr}
use mathlib.Core.Bool.{Bool, true, false, cond}
use mathlib.Core.List.{List, [], ◌++◌}
use Rattle.lists.specs.Members.{◌∈◌, All}
use Rattle.lists.proofs.MemberLaws.{all_append, member-append-left, member-append_right}
use Rattle.chains.specs.ChainList.{tries}

-- all of a choice of two lists: of each where it is chosen
pub cond_all : (P : List ℕ → Type 0) (b : Bool) (k l : List (List ℕ)) → (b ≡ true → All P k) → (b ≡ false → All P l)
    → All P (cond b k l)
cond_all P true k l on off = on refl
cond_all P false k l on off = off refl

module _ (go : ℕ → List (List ℕ)) (ok : ℕ → Bool) where
  pub tries_all : (P : List ℕ → Type 0) (k n : ℕ) → ((m : ℕ) → n ≤ m → m < n + k → ok m ≡ true → All P (go m))
      → All P (tries go ok k n)
  unfolding tries
  tries_all P zero n each = tt
  tries_all P (suc k) n each =
      all_append P (cond (ok n) (go n) []) (tries go ok k (suc n))
      (cond_all P (ok n) (go n) [] (each n (omega arith) (omega arith)) (λ off. tt))
      (tries_all P k (suc n) (λ m from upto. each m (omega arith) (omega arith)))

  pub tries-member : (c : List ℕ) (k n m : ℕ) → n ≤ m → m < n + k → ok m ≡ true → c ∈ go m → c ∈ tries go ok k n
  unfolding tries
  tries-member c zero n m from upto fits here = absurd (omega arith)
  tries-member c (suc k) n m from upto fits here =
      by_place (eq-or-lt_of_le from) (λ later. tries-member c k (suc n) m later (omega arith) fits here)
    where
      by_place : (n ≡ m) ⊎ (n < m) → (n < m → c ∈ tries go ok k (suc n))
          → c ∈ (cond (ok n) (go n) [] ++ tries go ok k (suc n))
      by_place (inl e) rest = member-append-left c (cond (ok n) (go n) []) (tries go ok k (suc n)) (rw (e, fits) here)
      by_place (inr later) rest = member-append_right c (cond (ok n) (go n) []) (tries go ok k (suc n)) (rest later)
