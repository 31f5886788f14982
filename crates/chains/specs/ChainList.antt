-- The list of all chains, and the test whether a chain shows a winding: what the walk follows. In these, j x y tests
-- whether x and y are joined.
--     Tested j x y         the test says that x and y are joined
--     is_in n p            n is among the terminals p
--     can_follow j p x n   a chain p that ends at x can go on to n: n is joined to x and not yet in p
--     tries go ok k n      what `go` makes of n, n + 1, … (k numbers), of each that is `ok`, one after the other
--     beyond j t f p x     the chains that begin with p, which ends at x, and go on by at most f terminals more
--     chains j t           all chains on a board of t terminals
--     crosses a b x y      the step from x to y goes from a to b or from b to a
--     some_crosses a b l   one of the steps l does
--     beside a b c         a and b stand side by side in c, in either order
--     shows a b c          c ends at 1 and has a and b side by side
-- proofs/ChainsCorrect, ChainsComplete and ChainsSorted show that these are exactly the chains of Chains.antt, in
-- dictionary order, each once. Document 000 gives two definitions of its available paths and leaves their equivalence
-- as "should be proved"; ours is proved.
use Rattle.std.specs.Prelude.{ℕ, zero, suc, ◌-◌, ◌≡◌, Bool, true, false, cond, not, ◌&&◌, ◌||◌, List, [], ◌∷◌, ◌++◌}
use Rattle.std.specs.Prelude.{eqb}
use Rattle.chains.specs.Chains.{plus, minus, steps, ending}

abbrev pub Tested : (ℕ → ℕ → Bool) → ℕ → ℕ → Type 0
Tested j x y = j x y ≡ true

unfoldable pub is_in : ℕ → List ℕ → Bool
is_in n [] = false
is_in n (x ∷ p) = eqb n x || is_in n p

unfoldable pub can_follow : (ℕ → ℕ → Bool) → List ℕ → ℕ → ℕ → Bool
can_follow j p x n = j x n && not (is_in n p)

unfoldable pub tries : (ℕ → List (List ℕ)) → (ℕ → Bool) → ℕ → ℕ → List (List ℕ)
tries go ok zero n = []
tries go ok (suc k) n = cond (ok n) (go n) [] ++ tries go ok k (suc n)

unfoldable pub beyond : (ℕ → ℕ → Bool) → ℕ → ℕ → List ℕ → ℕ → List (List ℕ)
beyond j t zero p x = []
beyond j t (suc f) p x =
    cond (eqb x minus) []
    (tries (λ (n : ℕ). (p ++ (n ∷ [])) ∷ beyond j t f (p ++ (n ∷ [])) n) (can_follow j p x) t 0)

unfoldable pub chains : (ℕ → ℕ → Bool) → ℕ → List (List ℕ)
chains j t = (plus ∷ []) ∷ beyond j t (t - 1) (plus ∷ []) plus

unfoldable pub crosses : ℕ → ℕ → ℕ → ℕ → Bool
crosses a b x y = eqb x a && eqb y b || eqb x b && eqb y a

unfoldable pub some_crosses : ℕ → ℕ → List (ℕ × ℕ) → Bool
some_crosses a b [] = false
some_crosses a b (s ∷ l) = crosses a b s.0 s.1 || some_crosses a b l

unfoldable pub beside : ℕ → ℕ → List ℕ → Bool
beside a b c = some_crosses a b (steps c)

unfoldable pub shows : ℕ → ℕ → List ℕ → Bool
shows a b c = eqb (ending c) minus && beside a b c
