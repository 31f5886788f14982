-- Laws of showing a winding: the test `shows` answers exactly what `Shows` says.
use Prim.Native.Nat.{ℕ}
use mathlib.Core.Path.{◌≡◌, sym, ap}
use mathlib.Core.Logic.{◌⊎◌, inl, inr, ⊎_map, ⊎_elim}
use mathlib.Core.Bool.{true, ◌&&◌, false≢true}
use mathlib.Core.List.{List, [], ◌∷◌}
use lib.Dec.{eqb}
use borrow.Author.Tests.{eqb-true, eq-eqb}
use Rattle.bits.proofs.BoolLaws.{both_true, true_both, either_true, true_either}
use Rattle.lists.specs.Members.{◌∈◌}
use Rattle.chains.specs.Chains.{minus, steps, ending, Shows}
use Rattle.chains.specs.ChainList.{crosses, some_crosses, beside, shows}

-- a pair of numbers is another exactly if both their places are equal
same-pair : (a b x y : ℕ) → (eqb x a && eqb y b) ≡ true → ◌≡◌ {A = ℕ × ℕ} (a, b) (x, y)
same-pair a b x y h =
    let e = both_true (eqb x a) (eqb y b) h in
    cc (eqb-true x a e.0, eqb-true y b e.1)

pair_same : (a b x y : ℕ) → ◌≡◌ {A = ℕ × ℕ} (a, b) (x, y) → (eqb x a && eqb y b) ≡ true
pair_same a b x y e =
    true_both (eq-eqb x a (ap (λ (s : ℕ × ℕ). s.0) (sym e))) (eq-eqb y b (ap (λ (s : ℕ × ℕ). s.1) (sym e)))

crosses_either : (a b : ℕ) (s : ℕ × ℕ) → crosses a b s.0 s.1 ≡ true → ((a, b) ≡ s) ⊎ ((b, a) ≡ s)
unfolding crosses
crosses_either a b s h =
    ⊎_map (same-pair a b s.0 s.1) (same-pair b a s.0 s.1)
    (either_true (eqb s.0 a && eqb s.1 b) (eqb s.0 b && eqb s.1 a) h)

either-crosses : (a b : ℕ) (s : ℕ × ℕ) → ((a, b) ≡ s) ⊎ ((b, a) ≡ s) → crosses a b s.0 s.1 ≡ true
unfolding crosses
either-crosses a b s e =
    true_either (eqb s.0 a && eqb s.1 b) (eqb s.0 b && eqb s.1 a)
    (⊎_map (pair_same a b s.0 s.1) (pair_same b a s.0 s.1) e)

regrouped : {A B C D : Type 0} → (A ⊎ B) ⊎ (C ⊎ D) → (A ⊎ C) ⊎ (B ⊎ D)
regrouped (inl (inl h)) = inl (inl h)
regrouped (inl (inr h)) = inr (inl h)
regrouped (inr (inl h)) = inl (inr h)
regrouped (inr (inr h)) = inr (inr h)

some_crosses-member : (a b : ℕ) (l : List (ℕ × ℕ)) → some_crosses a b l ≡ true → ((a, b) ∈ l) ⊎ ((b, a) ∈ l)
unfolding some_crosses
some_crosses-member a b [] h = absurd (false≢true h)
some_crosses-member a b (s ∷ l) h =
    regrouped (⊎_map (crosses_either a b s) (λ m. some_crosses-member a b l m)
    (either_true (crosses a b s.0 s.1) (some_crosses a b l) h))

member-some_crosses : (a b : ℕ) (l : List (ℕ × ℕ)) → ((a, b) ∈ l) ⊎ ((b, a) ∈ l) → some_crosses a b l ≡ true
unfolding some_crosses
member-some_crosses a b [] m = absurd (⊎_elim (λ h. h) (λ h. h) m)
member-some_crosses a b (s ∷ l) m =
    true_either (crosses a b s.0 s.1) (some_crosses a b l)
    (⊎_map (either-crosses a b s) (λ h. member-some_crosses a b l h) (regrouped m))

module _ (a b : ℕ) (c : List ℕ) where
  pub shows_true : shows a b c ≡ true → Shows a b c
  unfolding shows beside
  shows_true h =
      let e = both_true (eqb (ending c) minus) (beside a b c) h in
      (eqb-true (ending c) minus e.0, some_crosses-member a b (steps c) e.1)

  pub true-shows : Shows a b c → shows a b c ≡ true
  unfolding shows beside
  true-shows s = true_both (eq-eqb (ending c) minus s.0) (member-some_crosses a b (steps c) s.1)
