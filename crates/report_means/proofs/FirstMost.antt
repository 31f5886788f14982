-- Laws of the most moves of some runs, and of the place of the first that has so many.
use Prim.Native.Nat.{ℕ, zero, suc, ◌<◌, ◌≤◌, max}
use native.Mathlib.Omega.{arith}
use mathlib.Core.Path.{◌≡◌, refl, sym, subst}
use mathlib.Core.Bool.{Bool, true, false, cond}
use mathlib.Core.List.{List, [], ◌∷◌}
use lib.Dec.{eqb}
use lib.ListN.{length, get_or}
use borrow.Author.Tests.{eqb-true, eqb-false}
use Rattle.bits.proofs.BoolLaws.{by_test}
use Rattle.runs.specs.Runs.{Run}
use Rattle.report.specs.Figures.{moves_in, most_moves, first_with}

-- some run has the most moves
pub first_inside : (xs : List Run) → 0 < length xs → first_with (most_moves xs) xs < length xs
unfolding most_moves first_with
first_inside [] some = absurd (omega arith)
first_inside (x ∷ []) some =
    by_test (eqb (moves_in x) (max (moves_in x) 0)) (λ is. rw is (omega arith))
    (λ is. absurd (omega (arith, eqb-false (moves_in x) (max (moves_in x) 0) is)))
first_inside (x ∷ y ∷ xs) some =
    by_test (eqb (moves_in x) (max (moves_in x) (most_moves (y ∷ xs)))) (λ is. rw is (omega arith))
    (λ is.
    let other = eqb-false (moves_in x) (max (moves_in x) (most_moves (y ∷ xs))) is in
    let rest : max (moves_in x) (most_moves (y ∷ xs)) ≡ most_moves (y ∷ xs) = omega (arith, other) in
    let deeper : first_with (max (moves_in x) (most_moves (y ∷ xs))) (y ∷ xs) < length (y ∷ xs) =
    subst (λ (m : ℕ). first_with m (y ∷ xs) < length (y ∷ xs)) (sym rest) (first_inside (y ∷ xs) (omega arith)) in
    rw is (omega (arith, deeper)))

module _ (d : Run) where
  pub none_more : (xs : List Run) (k : ℕ) → k < length xs → moves_in (get_or xs k d) ≤ most_moves xs
  unfolding most_moves
  none_more [] k inside = absurd (omega arith)
  none_more (x ∷ xs) zero inside = omega arith
  none_more (x ∷ xs) (suc k) inside = omega (arith, none_more xs k (omega arith))

  -- the first that has m moves has them, if there is one
  pub first_has : (m : ℕ) (xs : List Run) → first_with m xs < length xs → moves_in (get_or xs (first_with m xs) d) ≡ m
  unfolding first_with
  first_has m [] inside = absurd (omega (arith, inside))
  first_has m (x ∷ xs) inside = by (eqb (moves_in x) m) refl (first_has m xs) inside
    where
      by : (t : Bool) → eqb (moves_in x) m ≡ t
          → (first_with m xs < length xs → moves_in (get_or xs (first_with m xs) d) ≡ m)
          → cond t 0 (suc (first_with m xs)) < suc (length xs)
          → moves_in (get_or (x ∷ xs) (cond t 0 (suc (first_with m xs))) d) ≡ m
      by true is later inside = eqb-true (moves_in x) m is
      by false is later inside = later (omega arith)

  -- and none before it has
  pub before_first : (m : ℕ) (xs : List Run) (k : ℕ) → k < first_with m xs → ¬ (moves_in (get_or xs k d) ≡ m)
  unfolding first_with
  before_first m [] k before = absurd (omega (arith, before))
  before_first m (x ∷ xs) k before = by (eqb (moves_in x) m) refl (before_first m xs) k before
    where
      by : (t : Bool) → eqb (moves_in x) m ≡ t
          → ((k : ℕ) → k < first_with m xs → ¬ (moves_in (get_or xs k d) ≡ m))
          → (k : ℕ) → k < cond t 0 (suc (first_with m xs)) → ¬ (moves_in (get_or (x ∷ xs) k d) ≡ m)
      by true is later k before = absurd (omega arith)
      by false is later zero before = eqb-false (moves_in x) m is
      by false is later (suc k) before = later k (omega arith)
