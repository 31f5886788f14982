-- Moves that follow one another, whatever a move is: one more; and, where the state before a move tells which it is and
-- where it leads, that there is one way for them to go.
use Prim.Native.Nat.{ℕ, ◌<◌, ◌≤◌}
use native.Mathlib.Omega.{arith}
use mathlib.Core.Path.{◌≡◌, refl, sym, subst, ◌∙◌}
use mathlib.Core.List.{List, [], ◌∷◌, ◌++◌}
use lib.ListN.{length, take}
use Rattle.state.specs.declared.State.{State}
use Rattle.runs_means.specs.Following.{Movement, Follows}

-- in state s a move with the number c leads to one state
abbrev pub OneEnd : Movement → Type 0
OneEnd M = (s : State) (c : ℕ) (t u : State) → M s c t → M s c u → t ≡ u

-- in each state there is one number that a move can have
abbrev pub OneNumber : Movement → Type 0
OneNumber M = (s : State) (c d : ℕ) (t u : State) → M s c t → M s d u → c ≡ d

module _ (M : Movement) where
  pub follows_next : (s : State) (cs : List ℕ) (t : State) (c : ℕ) (u : State) → Follows M s cs t → M t c u
      → Follows M s (cs ++ (c ∷ [])) u
  unfolding Follows
  follows_next s [] t c u same move = (u, subst (λ (z : State). M z c u) (sym same) move, refl)
  follows_next s (d ∷ cs) t c u (v, first, on) move = (v, first, follows_next v cs t c u on move)

  module _ (leads : OneEnd M) where
    pub follows_unique : (s : State) (cs : List ℕ) (t u : State) → Follows M s cs t → Follows M s cs u → t ≡ u
    unfolding Follows
    follows_unique s [] t u x y = sym x ∙ y
    follows_unique s (c ∷ cs) t u (v, x, on) (w, y, go) =
        let same = leads s c v w x y in
        follows_unique w cs t u (subst (λ (z : State). Follows M z cs t) same on) go

    -- fewer moves are the first of more
    pub follows_first : OneNumber M → (s : State) (cs ds : List ℕ) (t u : State) → Follows M s cs t → Follows M s ds u
        → length cs ≤ length ds → cs ≡ take (length cs) ds
    unfolding Follows
    follows_first logs s [] ds t u x y fewer = refl
    follows_first logs s (c ∷ cs) [] t u x y fewer = absurd (omega (arith, fewer))
    follows_first logs s (c ∷ cs) (d ∷ ds) t u (v, x, on) (w, y, go) fewer =
        let same = logs s c d v w x y in
        let left = leads s c v w x (subst (λ (n : ℕ). M s n w) (sym same) y) in
        let later =
        follows_first logs w cs ds t u (subst (λ (z : State). Follows M z cs t) left on) go (omega (arith, fewer)) in
        λ i. same i ∷ later i

    -- and after fewer moves one more can be made
    pub follows-onward : OneNumber M → (s : State) (cs ds : List ℕ) (t u : State) → Follows M s cs t → Follows M s ds u
        → length cs < length ds → (c : ℕ) × (v : State) × M t c v
    unfolding Follows
    follows-onward logs s [] [] t u x y fewer = absurd (omega (arith, fewer))
    follows-onward logs s [] (d ∷ ds) t u same (w, y, go) fewer = (d, w, subst (λ (z : State). M z d w) same y)
    follows-onward logs s (c ∷ cs) [] t u x y fewer = absurd (omega (arith, fewer))
    follows-onward logs s (c ∷ cs) (d ∷ ds) t u (v, x, on) (w, y, go) fewer =
        let left = leads s c v w x (subst (λ (n : ℕ). M s n w) (sym (logs s c d v w x y)) y) in
        follows-onward logs w cs ds t u (subst (λ (z : State). Follows M z cs t) left on) go (omega (arith, fewer))
