-- What it is to be linked, and to be reached. Request A4: "linked through conducting parts .., over any terminals";
-- request A6: "with x taken out, .. reaches .. over conducting parts".
--     Link J t x y                a row of terminals, of t that there are, from x to y, each joined to the next, where
--                                 J x y says that x and y are; it may pass a terminal twice, and may be x alone
--     Reachable J t From Out y    some row begins at a terminal of From, ends at y and has no terminal of Out
use Rattle.std.specs.Prelude.{ℕ, ◌<◌, ◌≡◌, List, ◌∷◌}
use Rattle.lists.specs.Members.{All}
use Rattle.chains.specs.Chains.{ending, Linked}

pub record Link (J : ℕ → ℕ → Type 0) (t x y : ℕ) : Type 0 where
  pub later : List ℕ
  pub inside : All (λ (z : ℕ). z < t) (x ∷ later)
  pub linked : Linked J (x ∷ later)
  pub ends : ending (x ∷ later) ≡ y

pub record Reachable (J : ℕ → ℕ → Type 0) (t : ℕ) (From Out : ℕ → Type 0) (y : ℕ) : Type 0 where
  pub from : ℕ
  pub begins : From from
  pub row : Link J t from y
  pub none_out : All (λ (z : ℕ). ¬ (Out z)) (from ∷ row.later)
