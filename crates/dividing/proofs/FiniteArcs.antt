-- The dichotomy of TwoWays for every relation that can be tested and lies below some number: arc after arc, along a
-- list of all pairs.
--     Kept S l    the arcs of S that l lists
--     upto f n    the pairs that f gives of each number below n
use Prim.Native.Nat.{ℕ, zero, suc, ◌<◌}
use native.Mathlib.Nat.{eq-or-lt_of_le, le_of_suc-le-suc}
use native.Mathlib.Omega.{arith}
use mathlib.Core.Path.{refl, ap, subst}
use mathlib.Core.Logic.{inl, inr, ⊎_elim}
use mathlib.Core.List.{List, [], ◌∷◌, ◌++◌}
use Rattle.lists.specs.Members.{◌∈◌}
use Rattle.lists.proofs.MemberLaws.{member-append-left, member-append_right}
use Rattle.dividing.proofs.TwoWays.{Decided, decided-same, decided_none, one_more}

abbrev Kept : (ℕ → ℕ → Type 0) → List (ℕ × ℕ) → ℕ → ℕ → Type 0
Kept S l u v = ((u, v) ∈ l) × S u v

module _ (S : ℕ → ℕ → Type 0) (test : (u v : ℕ) → Dec (S u v)) where
  kept_decided : (l : List (ℕ × ℕ)) → Decided (Kept S l)
  kept_decided [] = decided_none (Kept S []) (λ u v (m, s). m)
  kept_decided (e ∷ l) = next (test e.0 e.1) (kept_decided l)
    where
      next : Dec (S e.0 e.1) → Decided (Kept S l) → Decided (Kept S (e ∷ l))
      next (yes arc) =
          one_more (Kept S l) (Kept S (e ∷ l)) e.0 e.1 (λ u v (m, s). (inr m, s)) (inl refl, arc)
          (λ u v (m, s). ⊎_elim (λ k. inr (ap (λ (p : ℕ × ℕ). p.0) k, ap (λ (p : ℕ × ℕ). p.1) k)) (λ n. inl (n, s)) m)
      next (no none) =
          decided-same (Kept S l) (Kept S (e ∷ l)) (λ u v (m, s). (inr m, s))
          (λ u v (m, s). ⊎_elim (λ k. absurd (none (subst (λ (p : ℕ × ℕ). S p.0 p.1) k s))) (λ n. (n, s)) m)

upto : (ℕ → List (ℕ × ℕ)) → ℕ → List (ℕ × ℕ)
upto f zero = []
upto f (suc n) = f n ++ upto f n

upto-member : (f : ℕ → List (ℕ × ℕ)) (n k : ℕ) (p : ℕ × ℕ) → k < n → p ∈ f k → p ∈ upto f n
unfolding upto
upto-member f zero k p below m = absurd (omega arith)
upto-member f (suc n) k p below m =
    ⊎_elim (λ e. member-append-left p (f n) (upto f n) (subst (λ (i : ℕ). p ∈ f i) e m))
    (λ less. member-append_right p (f n) (upto f n) (upto-member f n k p less m))
    (eq-or-lt_of_le (le_of_suc-le-suc below))

pub decided-below : (S : ℕ → ℕ → Type 0) → ((u v : ℕ) → Dec (S u v)) → (n : ℕ)
    → ((u v : ℕ) → S u v → (u < n) × (v < n)) → Decided S
decided-below S test n below =
    let row : ℕ → List (ℕ × ℕ) = λ u. upto (λ v. (u, v) ∷ []) n in
    decided-same (Kept S (upto row n)) S (λ u v (m, s). s)
    (λ u v s. (
      upto-member row n u (u, v) (below u v s).0
          (upto-member (λ k. (u, k) ∷ []) n v (u, v) (below u v s).1 (inl refl)),
      s,
    ))
    (kept_decided S test (upto row n))
