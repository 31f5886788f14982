-- Laws of a chain's steps, its ending, its members and its sides when one terminal is added at its end: what the walk
-- needs to go on by one.
use Prim.Native.Nat.{ℕ}
use mathlib.Core.Path.{◌≡◌, refl, sym, ap, ◌∙◌}
use mathlib.Core.Logic.{⊎_map}
use mathlib.Core.Bool.{true, ◌||◌, or-false, or_assoc, false≢true}
use mathlib.Core.List.{List, [], ◌∷◌, ◌++◌}
use lib.Dec.{eqb}
use borrow.Author.Tests.{eqb-true, eq-eqb}
use Rattle.bits.proofs.BoolLaws.{either_true, true_either}
use Rattle.lists.specs.Members.{◌∈◌}
use Rattle.chains.specs.Chains.{steps, ending, ending_from}
use Rattle.chains.specs.ChainList.{is_in, crosses, some_crosses, beside}

ending_from_next : (x : ℕ) (p : List ℕ) (n : ℕ) → ending_from x (p ++ (n ∷ [])) ≡ n
ending_from_next x [] n = refl
ending_from_next x (y ∷ p) n = ending_from_next y p n

pub ending_next : (p : List ℕ) (n : ℕ) → ending (p ++ (n ∷ [])) ≡ n
ending_next [] n = refl
ending_next (x ∷ p) n = ending_from_next x p n

pub steps_next : (x : ℕ) (p : List ℕ) (n : ℕ) → steps ((x ∷ p) ++ (n ∷ [])) ≡ steps (x ∷ p)
    ++ ((ending (x ∷ p), n) ∷ [])
steps_next x [] n = refl
steps_next x (y ∷ p) n = ap {B = List (ℕ × ℕ)} (λ l. (x, y) ∷ l) (steps_next y p n)

some_crosses_next : (a b : ℕ) (l : List (ℕ × ℕ)) (x y : ℕ)
    → some_crosses a b (l ++ ((x, y) ∷ [])) ≡ (some_crosses a b l || crosses a b x y)
unfolding some_crosses
some_crosses_next a b [] x y = or-false (crosses a b x y)
some_crosses_next a b (s ∷ l) x y =
    rw (some_crosses_next a b l x y)
    (sym (or_assoc (crosses a b s.0 s.1) (some_crosses a b l) (crosses a b x y)))

pub beside_next : (a b x : ℕ) (p : List ℕ) (n : ℕ)
    → beside a b ((x ∷ p) ++ (n ∷ [])) ≡ (beside a b (x ∷ p) || crosses a b (ending (x ∷ p)) n)
unfolding beside
beside_next a b x p n =
    ap (some_crosses a b) (steps_next x p n) ∙ some_crosses_next a b (steps (x ∷ p)) (ending (x ∷ p)) n

pub is_in-member : (n : ℕ) (p : List ℕ) → is_in n p ≡ true → n ∈ p
unfolding is_in
is_in-member n [] h = absurd (false≢true h)
is_in-member n (x ∷ p) h = ⊎_map (λ e. eqb-true n x e) (λ m. is_in-member n p m) (either_true (eqb n x) (is_in n p) h)

pub member-is_in : (n : ℕ) (p : List ℕ) → n ∈ p → is_in n p ≡ true
unfolding is_in
member-is_in n [] m = absurd m
member-is_in n (x ∷ p) m =
    true_either (eqb n x) (is_in n p) (⊎_map (λ e. eq-eqb n x e) (λ m. member-is_in n p m) m)
