-- The order of chains is a dictionary order: a list comes before its extensions and the lower number before the higher.
-- With laws of lists that are in order, for ChainsSorted.
use Prim.Native.Nat.{ℕ, zero, suc, ◌<◌, suc-le-suc}
use native.Mathlib.Omega.{arith}
use mathlib.Core.Path.{◌≡◌, refl, sym, ap, ◌∙◌}
use mathlib.Core.Logic.{◌⊎◌, inl, inr, ⊎_map}
use mathlib.Core.List.{List, [], ◌∷◌, ◌++◌}
use Rattle.lists.specs.Members.{All, Once}
use Rattle.lists.proofs.MemberLaws.{all_append, all-member}
use Rattle.chains.specs.Chains.{Before, Sorted}

-- a list comes before its extensions
pub before_longer : (p : List ℕ) (n : ℕ) (q : List ℕ) → Before p (p ++ (n ∷ q))
before_longer [] n q = tt
before_longer (x ∷ p) n q = inr (refl, before_longer p n q)

-- the lower terminal number comes before the higher
pub before_higher : (p : List ℕ) (n m : ℕ) (q r : List ℕ) → n < m → Before (p ++ (n ∷ q)) (p ++ (m ∷ r))
before_higher [] n m q r lower = inl lower
before_higher (x ∷ p) n m q r lower = inr (refl, before_higher p n m q r lower)

pub before_irreflexive : (c : List ℕ) → ¬ (Before c c)
before_irreflexive [] h = h
before_irreflexive (x ∷ c) (inl h) = omega arith
before_irreflexive (x ∷ c) (inr h) = before_irreflexive c h.1

-- it is an order, and of any two lists one comes before the other
pub before_transitive : (c d e : List ℕ) → Before c d → Before d e → Before c e
before_transitive [] [] e h k = absurd h
before_transitive [] (y ∷ d) [] h k = absurd k
before_transitive [] (y ∷ d) (z ∷ e) h k = tt
before_transitive (x ∷ c) [] e h k = absurd h
before_transitive (x ∷ c) (y ∷ d) [] h k = absurd k
before_transitive (x ∷ c) (y ∷ d) (z ∷ e) (inl h) (inl k) = inl (omega arith)
before_transitive (x ∷ c) (y ∷ d) (z ∷ e) (inl h) (inr k) = inl (omega arith)
before_transitive (x ∷ c) (y ∷ d) (z ∷ e) (inr h) (inl k) = inl (omega arith)
before_transitive (x ∷ c) (y ∷ d) (z ∷ e) (inr h) (inr k) = inr (h.0 ∙ k.0, before_transitive c d e h.1 k.1)

-- of two numbers one is the lower or they are equal
compared : (x y : ℕ) → (x ≡ y) ⊎ ((x < y) ⊎ (y < x))
compared zero zero = inl refl
compared zero (suc y) = inr (inl (omega arith))
compared (suc x) zero = inr (inr (omega arith))
compared (suc x) (suc y) = ⊎_map (λ e. ap suc e) (λ h. ⊎_map suc-le-suc suc-le-suc h) (compared x y)

pub before_total : (c d : List ℕ) → (c ≡ d) ⊎ (Before c d ⊎ Before d c)
before_total [] [] = inl refl
before_total [] (y ∷ d) = inr (inl tt)
before_total (x ∷ c) [] = inr (inr tt)
before_total (x ∷ c) (y ∷ d) = by_heads (compared x y) (before_total c d)
  where
    by_heads : (x ≡ y) ⊎ ((x < y) ⊎ (y < x)) → (c ≡ d) ⊎ (Before c d ⊎ Before d c) → ((x ∷ c) ≡ (y ∷ d))
        ⊎ (Before (x ∷ c) (y ∷ d) ⊎ Before (y ∷ d) (x ∷ c))
    by_heads (inl e) (inl r) = inl (cc)
    by_heads (inl e) (inr (inl h)) = inr (inl (inr (e, h)))
    by_heads (inl e) (inr (inr h)) = inr (inr (inr (sym e, h)))
    by_heads (inr (inl l)) r = inr (inl (inl l))
    by_heads (inr (inr l)) r = inr (inr (inl l))

-- two lists in order, one after the other, are in order if each of the first comes before each of the second
pub sorted-append : (k l : List (List ℕ)) → Sorted k → Sorted l → All (λ (c : List ℕ). All (Before c) l) k
    → Sorted (k ++ l)
sorted-append [] l hk hl across = hl
sorted-append (c ∷ k) l hk hl across =
    (all_append (Before c) k l hk.0 across.0, sorted-append k l hk.1 hl across.1)

-- what is in order holds nothing twice
pub sorted-once : (l : List (List ℕ)) → Sorted l → Once l
sorted-once [] h = tt
sorted-once (c ∷ l) h = (λ m. before_irreflexive c (all-member (Before c) l c h.0 m), sorted-once l h.1)
